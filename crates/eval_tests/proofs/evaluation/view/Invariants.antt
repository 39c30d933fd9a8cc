use Rattle.std.proofs.Common.{◌<◌, ◌^◌, ℕ}
use Rattle.std.specs.Prelude.{slice_index}
use Rattle.nir_ops.specs.Width.{width_bits}
use Rattle.eval_tests.proofs.evaluation.view.Given as goal

abbrev pub invariant-loop-bits : goal.invariant-loop-bits
invariant-loop-bits l = (at : ℕ) → slice_index l.comps at < 2 ^ width_bits l.width
