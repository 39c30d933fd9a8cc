-- the components so far
use Rattle.std.proofs.Common.{◌≡◌, ◌+◌, ◌*◌, map}
use Rattle.std.specs.List.{range_with_len}
use Rattle.nir_ops.specs.Width.{width_bits}
use Rattle.nir_mean.specs.State.{loaded}
use Rattle.nir_mean.specs.ViewLaws.{AreWords}
use Rattle.nir_mean.proofs.world.load_all.Given as goal

abbrev pub invariant-loop-at : goal.invariant-loop-at
invariant-loop-at l = record {
  value : l.comps ≡ map (λ at. loaded l.bytes l.size (l.offset + at * l.size)) (range_with_len 0 l.at);
  words : AreWords (width_bits l.kind.width) l.comps;
}
