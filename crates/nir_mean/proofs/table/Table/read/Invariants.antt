-- the components so far
use Rattle.std.proofs.Common.{◌≡◌, map, slice_index, take}
use Rattle.nir_mean.proofs.table.Table.read.Given as goal

abbrev pub invariant-loop-entry : goal.invariant-loop-entry
invariant-loop-entry l = l.comps ≡ map (λ at. slice_index l.from at) (take l.entry-index l.swizzle)
