use Rattle.std.proofs.Common.{ap, ◌∙◌}
use Rattle.rule_spelling.specs.Formula.{Either}
use Rattle.formula_read.specs.Formulas.{when_says}
use Rattle.formula_read.proofs.FormulaSteps.{either_says}
use Rattle.formula_read.proofs.parse.either.Goals as goal

pub returns-clause-ok : goal.returns-clause-ok
returns-clause-ok c =
    either_says c.in_ok-left.left c.in_ok-right.right
    ∙ ap (λ when. Either (when_says when) (when_says c.in_ok-right.right.value)) c.in_ok-left.ensures.ok
    ∙ ap (λ when. Either (when_says c.args.left) (when_says when)) c.in_ok-right.ensures.ok
