use Rattle.nir_validate.specs.TypedLaws.{typed-from_valid}
use Rattle.nir_validate.proofs.laws.valid_shaders_are_typed.Goals as goal

pub returns : goal.returns
returns c = typed-from_valid
