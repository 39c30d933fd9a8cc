-- what was asked so far, and of the literals that are left, is what is asked of all
use Rattle.std.proofs.Common.{◌≡◌, drop}
use Rattle.circuit_laws.specs.RuleClauses.{all_false}
use Rattle.bit_circuit.specs.Growth.{all_asked}
use Rattle.bit_circuit.proofs.conditions.deny.Given as goal

abbrev pub invariant-loop-literal : goal.invariant-loop-literal
invariant-loop-literal l = all_asked l.circuit (all_false (drop l.literal-index l.literals)) ≡ all_asked l.fn.circuit (all_false l.literals)
