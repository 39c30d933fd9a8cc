use Rattle.rule_spelling.specs.Annotated.{size_written}
use Rattle.term_read.proofs.suffix.size_written.Goals as goal

pub returns : goal.returns
unfolding size_written
returns c = c.first_size.ensures
