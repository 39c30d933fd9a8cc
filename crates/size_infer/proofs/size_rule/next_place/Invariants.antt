-- the variable does not stand before the place
use Rattle.std.proofs.Common.{◌≡◌, drop}
use Rattle.size_infer.specs.Meant.{next_spot}
use Rattle.size_infer.proofs.size_rule.next_place.Given as goal

abbrev pub invariant-loop-spot : goal.invariant-loop-spot
invariant-loop-spot l = next_spot l.var (drop l.spot-index l.spots) l.own ≡ next_spot l.var l.spots l.own
