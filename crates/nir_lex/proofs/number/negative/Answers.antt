use Rattle.nir_lex.proofs.Values.{negated, too_low, too_low_and_wide}
use Rattle.nir_lex.proofs.number.negative.Goals as goal

pub returns-then-size : goal.returns-then-size
returns-then-size c = too_low c.in-Some.size _ c.if-size.true c.in-Some.ensures

pub returns-else-size : goal.returns-else-size
returns-else-size c = negated c.in-Some.size _ _ c.from.ensures c.if-size.false c.in-Some.ensures

pub returns-in-None : goal.returns-in-None
returns-in-None c = too_low_and_wide _ c.in-None.ensures
