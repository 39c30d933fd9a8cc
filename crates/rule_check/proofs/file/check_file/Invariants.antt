-- the rules so far are in the table, and none of them is refused
use Rattle.std.proofs.Common.{◌≡◌, ◌++◌, length, map, drop, take}
use Rattle.std.specs.List.{AllByRecursion}
use Rattle.nir_ops.specs.declared.op.Op.{Op}
use Rattle.rule_term.specs.Table.{AllBelow, op_weight}
use Rattle.rule_read.specs.Says.{weight_says}
use Rattle.rule_check.specs.Accepted.{entries_say, refusals, rules_of, weight_in}
use Rattle.rule_check.specs.Verdicts.{HasHolding}
use Rattle.rule_check.proofs.file.check_file.Given as goal

abbrev pub invariant-loop-entry : goal.invariant-loop-entry
invariant-loop-entry l =
    (goal.iterator-loop-entry).can_next l.entry-iterator
    × (goal.iterator-loop-entry).is_finite l.entry-iterator
    × (l.table.rules ++ rules_of (drop (length l.yielded) l.fn.file.entries) ≡ rules_of l.fn.file.entries)
    × (refusals (entries_say (drop (length l.yielded) l.fn.file.entries)) ≡ refusals (entries_say l.fn.file.entries))
    × AllBelow (length l.yielded) l.table.rules
    × AllByRecursion HasHolding (take (length l.yielded) l.fn.file.entries)
    × ((op : Op) → op_weight l.table op ≡ weight_in (map weight_says l.fn.file.weights) op)
