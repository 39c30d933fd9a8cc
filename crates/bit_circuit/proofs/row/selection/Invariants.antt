use Rattle.std.proofs.Common.{drop}
use Rattle.circuit_laws.specs.Blocks.{selection}
use Rattle.bit_circuit.proofs.GrowthLemmas.{Left}
use Rattle.bit_circuit.proofs.row.selection.Given as goal

abbrev pub invariant-loop-at : goal.invariant-loop-at
invariant-loop-at l =
    Left l.circuit l.word (selection (drop l.at l.mask) (drop l.at l.xs) (drop l.at l.ys) l.circuit.next) l.fn.circuit (selection l.mask l.xs l.ys l.fn.circuit.next)
