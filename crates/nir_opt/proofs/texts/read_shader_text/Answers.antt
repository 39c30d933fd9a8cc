use Rattle.std.proofs.Common.{refl, subst}
use Rattle.std.specs.Prelude.{Err}
use Rattle.nir_mean.specs.ShaderText.{AreRead}
use Rattle.nir_opt.proofs.TextAnswers.{answer_long, fits_asked}
use Rattle.nir_opt.proofs.texts.read_shader_text.Goals as goal

pub returns-in-Err-TooLong-clause-text : goal.returns-in-Err-TooLong-clause-text
returns-in-Err-TooLong-clause-text g c = λ text told.
    fits_asked 2 _ _ (answer_long text (subst (λ fault. AreRead (Err fault) text) c.in-Err-TooLong.field-0-is (c.in-Err-TooLong.ensures.told text told))) refl
