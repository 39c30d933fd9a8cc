use Rattle.std.proofs.Common.{◌≡◌, ◌≤◌, ◌-◌, length, take}
use Rattle.nir_host.specs.Told.{Gains}
use Rattle.nir_host.proofs.writing.write_all.Given as goal

abbrev pub invariant-pieces : goal.invariant-pieces
invariant-pieces g l =
    let taken = g.K.Sink.taken in
    let faults = g.K.Sink.faults in
    record {
      within : l.done ≤ length l.bytes;
      told : Gains (taken l.fn.sink) (taken l.sink) (take l.done l.bytes);
      faults : faults l.sink ≡ faults l.fn.sink;
    }

abbrev pub decreases-pieces : goal.decreases-pieces
decreases-pieces g l = length l.bytes - l.done
