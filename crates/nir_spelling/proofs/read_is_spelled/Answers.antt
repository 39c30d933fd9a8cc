use Rattle.nir_spelling.proofs.Texts.{read_is_spelled}
use Rattle.nir_spelling.proofs.read_is_spelled.Goals as goal

pub returns : goal.returns
returns c = read_is_spelled c.tokens_are_in_order.ensures
