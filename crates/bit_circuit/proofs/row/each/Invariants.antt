use Rattle.std.proofs.Common.{drop}
use Rattle.circuit_laws.specs.Blocks.{each}
use Rattle.bit_circuit.specs.Pairs.{gate_by}
use Rattle.bit_circuit.proofs.GrowthLemmas.{Left}
use Rattle.bit_circuit.proofs.row.each.Given as goal

abbrev pub invariant-loop-at : goal.invariant-loop-at
invariant-loop-at l =
    Left l.circuit l.word (each (gate_by l.how) (drop l.at l.xs) (drop l.at l.ys) l.circuit.next) l.fn.circuit (each (gate_by l.how) l.xs l.ys l.fn.circuit.next)
