-- the literals so far, and those of the variables that are left
use Rattle.std.proofs.Common.{◌≡◌, ◌++◌, ◌-◌}
use Rattle.circuit_laws.specs.Literals.{variables}
use Rattle.bit_circuit.specs.Asking.{with_variables}
use Rattle.bit_circuit.proofs.inputs.input.Given as goal

abbrev pub invariant-loop-at : goal.invariant-loop-at
invariant-loop-at l = record {
  word : l.word ++ variables l.circuit.next (l.count - l._at) ≡ variables l.fn.circuit.next l.count;
  grown : l.circuit ≡ with_variables l.fn.circuit l._at;
}
