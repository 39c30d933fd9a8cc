-- the components so far
use Rattle.std.proofs.Common.{◌≡◌, take}
use Rattle.nir_mean.proofs.view.comps_of.Given as goal

abbrev pub invariant-loop-item : goal.invariant-loop-item
invariant-loop-item l = l.comps ≡ take l.item-index l.items
