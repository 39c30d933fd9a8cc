-- what was taken over, and what is taken over behind it, is all that is bound
use Rattle.std.proofs.Common.{◌≡◌, ◌≤◌, ◌++◌, drop, length}
use Rattle.std.specs.List.{flat_map}
use Rattle.std.specs.Option.{option_to_list}
use Rattle.nir_search.proofs.bound.Bound.subst.Given as goal

abbrev pub invariant-loop-slot : goal.invariant-loop-slot
invariant-loop-slot l = (l.binds.items ++ flat_map option_to_list (drop l.slot-index l.slot-items) ≡ flat_map option_to_list l.slot-items) × (length l.binds.items ≤ l.slot-index)
