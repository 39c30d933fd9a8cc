use Rattle.bit_circuit.specs.Growth.{with_gate}
use Rattle.bit_circuit.proofs.circuit.Circuit.mux.Goals as goal

pub returns-clause-grown : goal.returns-clause-grown
unfolding with_gate
returns-clause-grown c = rw (c.in_ok-ask-4.ensures, c.in_ok-ask-3.ensures, c.in_ok-ask-2.ensures, c.in_ok-ask.ensures, c.negated.ensures, c.negated-2.ensures, c.negated-3.ensures, c.negated-4.ensures, c.negated-5.ensures, c.negated-6.ensures, c.in_ok-made.ensures.grown, c.in_ok-made.ensures.made)
