-- the weights set so far, and those of the lines from the place on, are those of all lines
use Rattle.std.proofs.Common.{◌≡◌, [], drop, map}
use Rattle.nir_ops.specs.declared.op.Op.{Op}
use Rattle.rule_term.specs.Table.{op_weight}
use Rattle.rule_read.specs.Says.{weight_says}
use Rattle.rule_check.specs.Accepted.{weight_in, weight_or}
use Rattle.rule_check.proofs.file.weighed.Given as goal

abbrev pub invariant-loop-line : goal.invariant-loop-line
invariant-loop-line l = record {
  rules : l.table.rules ≡ [];
  weights : (op : Op) → weight_or (map weight_says (drop l.line-index l.weights)) (op_weight l.table op) op ≡ weight_in (map weight_says l.weights) op;
}
