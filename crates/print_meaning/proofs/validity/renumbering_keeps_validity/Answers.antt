use Rattle.print_meaning.proofs.KeepsValid.{renumbered_is_valid}
use Rattle.print_meaning.proofs.validity.renumbering_keeps_validity.Goals as goal

pub returns : goal.returns
returns c = renumbered_is_valid
