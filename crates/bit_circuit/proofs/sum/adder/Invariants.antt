use Rattle.std.proofs.Common.{◌≡◌, drop}
use Rattle.circuit_laws.specs.Blocks.{adder, sum_of}
use Rattle.bit_circuit.proofs.GrowthLemmas.{Left}
use Rattle.bit_circuit.proofs.sum.adder.Given as goal

abbrev pub invariant-loop-at : goal.invariant-loop-at
invariant-loop-at l = record {
  left : Left l.circuit l.word (sum_of (adder (drop l.at l.xs) (drop l.at l.ys) l.carried l.circuit.next)) l.fn.circuit (sum_of (adder l.xs l.ys l.fn.carry l.fn.circuit.next));
  carry : (adder (drop l.at l.xs) (drop l.at l.ys) l.carried l.circuit.next).carry ≡ (adder l.xs l.ys l.fn.carry l.fn.circuit.next).carry;
}
