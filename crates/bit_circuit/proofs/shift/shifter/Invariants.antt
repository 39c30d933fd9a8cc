use Rattle.std.proofs.Common.{drop, []}
use Rattle.circuit_laws.specs.Blocks.{shifter}
use Rattle.bit_circuit.specs.Moves.{moved_by}
use Rattle.bit_circuit.proofs.GrowthLemmas.{Left}
use Rattle.bit_circuit.proofs.shift.shifter.Given as goal

abbrev pub invariant-loop-at : goal.invariant-loop-at
invariant-loop-at l =
    Left l.circuit [] (shifter (moved_by l.how) l.word (drop l.at l.count) l.at l.circuit.next) l.fn.circuit (shifter (moved_by l.how) l.xs l.count 0 l.fn.circuit.next)
