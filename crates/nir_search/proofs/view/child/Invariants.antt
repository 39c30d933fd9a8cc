-- what was viewed, and what is viewed behind it, is the whole view
use Rattle.std.proofs.Common.{◌≡◌, ◌++◌, drop, map, length, slice_index}
use Rattle.nir_search.proofs.view.child.Given as goal

abbrev pub invariant-loop-at : goal.invariant-loop-at
invariant-loop-at l = (l.viewed ++ map (λ c. slice_index l.src.swizzle c) (drop l.at-index l.comps) ≡ map (λ c. slice_index l.src.swizzle c) l.comps) × (length l.viewed ≡ l.at-index)
