use Rattle.print_meaning.proofs.Shape.{renumbered_is_shaped}
use Rattle.print_meaning.proofs.validity.renumbering_keeps_shape.Goals as goal

pub returns : goal.returns
returns c = renumbered_is_shaped
