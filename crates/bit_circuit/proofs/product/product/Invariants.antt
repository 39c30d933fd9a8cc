use Rattle.std.proofs.Common.{drop, [], length}
use Rattle.circuit_laws.specs.Blocks.{product}
use Rattle.circuit_laws.specs.Opcodes.{none}
use Rattle.bit_circuit.proofs.GrowthLemmas.{Left}
use Rattle.bit_circuit.proofs.product.product.Given as goal

abbrev pub invariant-loop-at : goal.invariant-loop-at
invariant-loop-at l =
    Left l.circuit [] (product l.xs (drop l.at l.ys) l.at l.sum l.circuit.next) l.fn.circuit (product l.xs l.ys 0 (none (length l.xs)) l.fn.circuit.next)
