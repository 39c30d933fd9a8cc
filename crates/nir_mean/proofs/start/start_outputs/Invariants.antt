-- the outputs so far
use Rattle.std.proofs.Common.{◌≡◌, map, take}
use Rattle.nir_mean.specs.State.{zeros}
use Rattle.nir_mean.proofs.start.start_outputs.Given as goal

abbrev pub invariant-loop-kind : goal.invariant-loop-kind
invariant-loop-kind l = l.outputs ≡ map zeros (take l.kind-index l.kinds)
