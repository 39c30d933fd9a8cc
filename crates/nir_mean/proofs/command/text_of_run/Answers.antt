use Rattle.nir_validate.specs.TypedLaws.{typed-from_valid}
use Rattle.nir_mean.proofs.FitLemmas.{buffers_from, inputs_from}
use Rattle.nir_mean.proofs.command.text_of_run.Goals as goal

pub evaluate-requires-clause-typed : goal.evaluate-requires-clause-typed
evaluate-requires-clause-typed c = typed-from_valid c.args.shader.now c.requires.valid

pub evaluate-requires-clause-inputs : goal.evaluate-requires-clause-inputs
evaluate-requires-clause-inputs c = inputs_from c.args.given.now c.args.shader.now c.requires.fits

pub evaluate-requires-clause-buffers : goal.evaluate-requires-clause-buffers
evaluate-requires-clause-buffers c = buffers_from c.args.given.now c.args.shader.now c.requires.fits
