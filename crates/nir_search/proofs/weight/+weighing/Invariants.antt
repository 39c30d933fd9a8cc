-- what is left now, without what comes, is what is left in the end
use Rattle.std.proofs.Common.{◌≡◌, ◌-◌, drop}
use Rattle.nir_ir.specs.Nodes.{nodes_of}
use Rattle.rule_term.specs.Table.{op_weight}
use Rattle.nir_search.specs.Weight.{total}
use Rattle.nir_search.proofs.weight.+weighing.Given as goal

abbrev pub invariant-without_list-loop-node : goal.invariant-without_list-loop-node
invariant-without_list-loop-node l = l.left - total (op_weight l.table) (nodes_of (drop l.node-index l.list)) ≡ l.fn.left - total (op_weight l.table) (nodes_of l.list)
