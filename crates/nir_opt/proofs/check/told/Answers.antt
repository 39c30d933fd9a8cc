use Rattle.nir_opt.proofs.Heard.{heard_one}
use Rattle.nir_opt.proofs.check.told.Goals as goal

pub returns-clause-notes : goal.returns-clause-notes
returns-clause-notes g c = heard_one _ _ _ _ _ c.note_told-heard.result c.note_told-heard.ensures
