-- the components counted so far
use Rattle.std.proofs.Common.{◌≡◌, length}
use Rattle.std.specs.List.{range_with_len}
use Rattle.rewrite_pass.proofs.build.whole_source.Given as goal

abbrev pub invariant-loop-at : goal.invariant-loop-at
invariant-loop-at l = (l.swizzle ≡ range_with_len 0 l.at) × (length l.swizzle ≡ l.at)
