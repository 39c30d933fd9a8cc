-- the variables before the place have the sizes of their next occurrences
use Rattle.std.proofs.Common.{◌≡◌, ◌++◌, drop, map}
use Rattle.size_infer.specs.Meant.{link_spots, meant}
use Rattle.size_infer.proofs.size_rule.add_links.Given as goal

abbrev pub invariant-loop-at : goal.invariant-loop-at
invariant-loop-at l = map meant l.rules ++ link_spots (drop l.at l.spots) ≡ map meant l.fn.rules ++ link_spots l.spots
