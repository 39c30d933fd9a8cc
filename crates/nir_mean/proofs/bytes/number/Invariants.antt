-- the number of the bytes from the place on
use Rattle.std.proofs.Common.{◌≡◌, ◌-◌, ◌^◌, ◌<◌, ◌≤◌, length, drop}
use Rattle.nir_mean.specs.State.{number_of}
use Rattle.nir_mean.proofs.bytes.number.Given as goal

abbrev pub invariant-loop-at : goal.invariant-loop-at
invariant-loop-at l = record { value : l.number ≡ number_of (drop l.at l.bytes); small : l.number < 256 ^ (length l.bytes - l.at); within : l.at ≤ length l.bytes }

abbrev pub decreases-loop-at : goal.decreases-loop-at
decreases-loop-at l = l.at
