use Rattle.walk_laws.specs.PartsLaws.{valid-by_parts}
use Rattle.walk_laws.proofs.valid_by_parts.Goals as goal

pub returns : goal.returns
returns c = valid-by_parts
