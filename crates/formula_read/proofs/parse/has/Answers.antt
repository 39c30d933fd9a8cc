use Rattle.std.proofs.Common.{ap, ◌∙◌}
use Rattle.rule_spelling.specs.Formula.{Has}
use Rattle.formula_read.proofs.FormulaSteps.{has_says}
use Rattle.formula_read.proofs.parse.has.Goals as goal

pub returns-clause-ok : goal.returns-clause-ok
returns-clause-ok c = has_says c.in_ok-from_slice.field-0 ∙ ap Has c.in_ok-from_slice.ensures
