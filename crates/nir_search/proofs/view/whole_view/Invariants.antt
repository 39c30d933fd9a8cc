-- the components counted so far
use Rattle.std.proofs.Common.{◌≡◌, length}
use Rattle.std.specs.List.{range_with_len}
use Rattle.nir_search.proofs.view.whole_view.Given as goal

abbrev pub invariant-loop-at : goal.invariant-loop-at
invariant-loop-at l = (l.comps ≡ range_with_len 0 l.at) × (length l.comps ≡ l.at)
