-- what is left now, without what comes, is what is left in the end
use Rattle.std.proofs.Common.{◌≡◌, ◌-◌, drop, sum_by}
use Rattle.rule_term.specs.Table.{op_weight}
use Rattle.nir_search.specs.Weight.{instr_weight}
use Rattle.nir_search.proofs.weight.without_instrs.Given as goal

abbrev pub invariant-loop-instr : goal.invariant-loop-instr
invariant-loop-instr l = l.left - sum_by (instr_weight (op_weight l.table)) (drop l.instr-index l.instrs) ≡ l.fn.left - sum_by (instr_weight (op_weight l.table)) l.instrs
