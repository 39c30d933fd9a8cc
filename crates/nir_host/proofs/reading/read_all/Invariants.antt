use Rattle.std.proofs.Common.{◌≡◌, ◌≤◌, ◌-◌, length}
use Rattle.nir_host.specs.Told.{Loses}
use Rattle.nir_host.proofs.reading.read_all.Given as goal

abbrev pub invariant-pieces : goal.invariant-pieces
invariant-pieces g l =
    let left = g.S.Source.left in
    let faults = g.S.Source.faults in
    record {
      short : length l.bytes ≤ l.max;
      told : Loses (left l.fn.src) (left l.src) l.bytes;
      faults : faults l.src ≡ faults l.fn.src;
    }

abbrev pub decreases-pieces : goal.decreases-pieces
decreases-pieces g l = l.max - length l.bytes
