use Rattle.std.proofs.Common.{drop, []}
use Rattle.circuit_laws.specs.Literals.{yes}
use Rattle.circuit_laws.specs.Blocks.{equality}
use Rattle.bit_circuit.proofs.GrowthLemmas.{Left}
use Rattle.bit_circuit.proofs.compare.equality.Given as goal

abbrev pub invariant-loop-at : goal.invariant-loop-at
invariant-loop-at l = Left l.circuit [] (equality (drop l.at l.xs) (drop l.at l.ys) l.equal l.circuit.next) l.fn.circuit (equality l.xs l.ys yes l.fn.circuit.next)
