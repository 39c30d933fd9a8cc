use Rattle.std.proofs.Common.{ap, ◌∙◌}
use Rattle.rule_spelling.specs.Formula.{Not}
use Rattle.formula_read.specs.Formulas.{when_says}
use Rattle.formula_read.proofs.FormulaSteps.{not_says}
use Rattle.formula_read.proofs.parse.negation.Goals as goal

pub returns-clause-ok : goal.returns-clause-ok
returns-clause-ok c = not_says c.in_ok-new.field-0 ∙ ap (λ when. Not (when_says when)) c.in_ok-new.ensures.ok
