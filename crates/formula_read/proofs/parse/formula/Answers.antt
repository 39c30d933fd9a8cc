use Rattle.std.proofs.Common.{◌≡◌, ◌≤◌, length, subst, arith}
use Rattle.std.specs.Prelude.{IfOk}
use Rattle.std.specs.Option.{option_map}
use Rattle.std.proofs.lemmas.Bool.{le-leb}
use Rattle.rule_spelling.specs.Formula.{terminals_from}
use Rattle.formula_read.specs.Formulas.{terminals, when_says}
use Rattle.formula_read.proofs.FormulaSteps.{formula_is, signs_are}
use Rattle.formula_read.proofs.parse.formula.Goals as goal

pub returns : goal.returns
returns c =
    let few : length c.args.text.now ≤ 256 = omega (arith, c.if-text-gt-MOST_BYTES.false) in
    subst (λ formula. IfOk c.whole.result (λ when. option_map when_says when ≡ formula))
    (formula_is c.args.text.now (terminals c.as_slice.result.now) (le-leb (length c.args.text.now) 256 few)
    (signs_are c.in_ok-signs.field-0 c.in-Some.signs c.as_slice.result.now (terminals_from 0 c.args.text.now) (let e = c.in-Some.is in cc) c.as_slice.ensures
    c.in_ok-signs.ensures))
    c.whole.ensures
