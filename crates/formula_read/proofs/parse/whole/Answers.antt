use Rattle.std.proofs.Common.{◌≡◌, ◌+◌, suc, length, arith}
use Rattle.std.proofs.lemmas.List.{length-map}
use Rattle.formula_read.specs.Formulas.{terminal, terminals, when_says}
use Rattle.formula_read.proofs.FormulaSteps.{more_left, nothing_left, whole_fails}
use Rattle.formula_read.proofs.parse.whole.Goals as goal

pub returns-in-None : goal.returns-in-None
returns-in-None c =
    nothing_left c.args.signs.now (terminals c.in-Ok.field-0.rest.signs.now) (when_says c.in-Ok.field-0.when) c.in-Ok.ensures c.in-None.ensures

pub returns-in-Some : goal.returns-in-Some
returns-in-Some c =
    more_left c.args.signs.now _ (terminals c.in-Ok.field-0.rest.signs.now) _ (when_says c.in-Ok.field-0.when) c.in-Ok.ensures c.in-Some.ensures

pub returns-in-Err-Malformed : goal.returns-in-Err-Malformed
returns-in-Err-Malformed c =
    let size = length-map c.args.signs.now terminal in
    let deep : length c.args.signs.now + 1 ≡ suc (length (terminals c.args.signs.now)) = omega (arith, size) in
    whole_fails c.in-Err-Malformed.field-0 (length c.args.signs.now + 1) (terminals c.args.signs.now) deep (let e = c.in-Err-Malformed.field-0-is in cc)
    c.in-Err-Malformed.ensures
