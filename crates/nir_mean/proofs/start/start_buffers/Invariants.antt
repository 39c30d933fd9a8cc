-- the buffers so far
use Rattle.std.proofs.Common.{◌≡◌, take}
use Rattle.nir_mean.proofs.start.start_buffers.Given as goal

abbrev pub invariant-loop-bytes : goal.invariant-loop-bytes
invariant-loop-bytes l = l.buffers ≡ take l.bytes-index l.given
