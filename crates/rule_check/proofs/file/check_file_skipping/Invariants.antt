-- the accepted rules so far are in the table, and the refusals in the list
use Rattle.std.proofs.Common.{◌≡◌, ◌++◌, length, map, drop}
use Rattle.nir_ops.specs.declared.op.Op.{Op}
use Rattle.rule_term.specs.Table.{AllBelow, op_weight}
use Rattle.rule_read.specs.Says.{weight_says}
use Rattle.rule_check.specs.Accepted.{entries_say, accepted, refusals, weight_in}
use Rattle.rule_check.proofs.file.check_file_skipping.Given as goal

abbrev pub invariant-loop-entry : goal.invariant-loop-entry
invariant-loop-entry l =
    (goal.iterator-loop-entry).can_next l.entry-iterator
    × (goal.iterator-loop-entry).is_finite l.entry-iterator
    × (l.table.rules ++ accepted (drop (length l.yielded) l.fn.file.entries) ≡ accepted l.fn.file.entries)
    × (l.refused ++ refusals (entries_say (drop (length l.yielded) l.fn.file.entries)) ≡ refusals (entries_say l.fn.file.entries))
    × AllBelow (length l.yielded) l.table.rules
    × ((op : Op) → op_weight l.table op ≡ weight_in (map weight_says l.fn.file.weights) op)
