use Rattle.nir_validate.specs.Grow.{walk_keeps}
use Rattle.nir_validate.proofs.laws.sets_only_grow.Goals as goal

pub returns : goal.returns
returns c = walk_keeps
