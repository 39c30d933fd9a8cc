use Rattle.std.proofs.Common.{length}
use Rattle.nir_validate.proofs.rules.+input_counts_fit.Given as goal

abbrev pub decreases-input_counts_fit : goal.decreases-input_counts_fit
decreases-input_counts_fit l = length l.inputs.now
