use Rattle.walk_laws.specs.PlacedLaws.{valid_placed}
use Rattle.walk_laws.proofs.placed_instructions_keep_validity.Goals as goal

pub returns : goal.returns
returns c = valid_placed
