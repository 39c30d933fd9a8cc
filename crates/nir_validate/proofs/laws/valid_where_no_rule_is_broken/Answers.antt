use Rattle.nir_validate.specs.TypedLaws.{valid-where_none}
use Rattle.nir_validate.proofs.laws.valid_where_no_rule_is_broken.Goals as goal

pub returns : goal.returns
returns c = valid-where_none
