-- what is made so far is the block of the bits from this place on
use Rattle.std.proofs.Common.{◌≡◌, ◌≤◌, drop, length}
use Rattle.circuit_laws.specs.Blocks.{lowest_place}
use Rattle.bit_circuit.specs.Growth.{grown}
use Rattle.bit_circuit.proofs.lowest.lowest_place.Given as goal

abbrev pub invariant-places : goal.invariant-places
invariant-places l = record {
  word : l.word ≡ (lowest_place (drop l.at l.xs) l.at l.fn.circuit.next).word;
  gates : l.circuit ≡ grown l.fn.circuit (lowest_place (drop l.at l.xs) l.at l.fn.circuit.next).gates;
  within : l.at ≤ length l.xs;
}

abbrev pub decreases-places : goal.decreases-places
decreases-places l = l.at
