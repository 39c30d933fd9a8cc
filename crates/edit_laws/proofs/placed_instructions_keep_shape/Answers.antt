use Rattle.edit_laws.specs.PlacedLaws.{shaped_placed}
use Rattle.edit_laws.proofs.placed_instructions_keep_shape.Goals as goal

pub returns : goal.returns
returns c = shaped_placed
