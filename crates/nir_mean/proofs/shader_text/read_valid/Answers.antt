use Rattle.std.proofs.Common.{subst}
use Rattle.std.specs.Prelude.{Err}
use Rattle.nir_mean.specs.ShaderText.{AreRead}
use Rattle.nir_mean.proofs.shader_text.read_valid.Goals as goal

pub returns-in-Err-TooLong-clause-told : goal.returns-in-Err-TooLong-clause-told
returns-in-Err-TooLong-clause-told g c = λ text told. subst (λ fault. AreRead (Err fault) text) c.in-Err-TooLong.field-0-is (c.in-Err-TooLong.ensures.told text told)
