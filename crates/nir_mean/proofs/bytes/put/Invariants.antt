-- the bytes that are still to be written, written there, make the whole
use Rattle.std.proofs.Common.{◌≡◌, ◌+◌, ◌-◌, length}
use Rattle.std.proofs.Math.Seq.{sets}
use Rattle.nir_mean.specs.State.{bytes_of}
use Rattle.nir_mean.proofs.bytes.put.Given as goal

abbrev pub invariant-loop-at : goal.invariant-loop-at
invariant-loop-at l = record {
  same : length l.bytes ≡ length l.initial.bytes;
  rest : sets l.bytes (l.place + l.at) (bytes_of (l.size - l.at) l.left) ≡ sets l.initial.bytes l.place (bytes_of l.size l.comp);
}
