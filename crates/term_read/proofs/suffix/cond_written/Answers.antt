use Rattle.rule_spelling.specs.Annotated.{cond_written}
use Rattle.term_read.proofs.suffix.cond_written.Goals as goal

pub returns : goal.returns
unfolding cond_written
returns c = c.first_cond.ensures
