use Rattle.nir_text.specs.Kinds.{kind_named}
use Rattle.nir_text.proofs.kinds.kind_named.Goals as goal

pub returns : goal.returns
unfolding kind_named
returns c = c.first_with_word.ensures
