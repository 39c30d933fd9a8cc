-- the words so far, and those of the variables that are left
use Rattle.std.proofs.Common.{◌≡◌, ◌++◌, drop, take}
use Rattle.std.specs.Prelude.{sum}
use Rattle.circuit_laws.specs.RuleClauses.{words_from}
use Rattle.bit_circuit.specs.Asking.{with_variables}
use Rattle.bit_circuit.proofs.inputs.inputs.Given as goal

abbrev pub invariant-loop-count : goal.invariant-loop-count
invariant-loop-count l = record {
  words : l.words ++ words_from l.circuit.next (drop l.count-index l.bits) ≡ words_from l.fn.circuit.next l.bits;
  grown : l.circuit ≡ with_variables l.fn.circuit (sum (take l.count-index l.bits));
}
