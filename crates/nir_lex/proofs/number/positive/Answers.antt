use Rattle.std.proofs.Common.{ap, ◌∙◌}
use Rattle.nir_lex.specs.Numbers.{word_of}
use Rattle.nir_lex.proofs.Values.{digits_value-cons, widened, too_wide}
use Rattle.nir_lex.proofs.number.positive.Goals as goal

pub returns-in-Some : goal.returns-in-Some
returns-in-Some c =
    let same = digits_value-cons c.args.radix c.from.result c.args.first c.args.digits.now (c.from.ensures ∙ c.digit_value.ensures) in
    widened c.in-Some.size _ _ c.from-in-Some.ensures (c.in-Some.ensures ∙ ap word_of same)

pub returns-in-None : goal.returns-in-None
returns-in-None c =
    let same = digits_value-cons c.args.radix c.from.result c.args.first c.args.digits.now (c.from.ensures ∙ c.digit_value.ensures) in
    too_wide _ (c.in-None.ensures ∙ ap word_of same)
