use Rattle.rule_spelling.specs.TextLaws.{read_is_spelled, formula_is_spelled}
use Rattle.rule_spelling.proofs.read_is_spelled.Goals as goal

pub returns-clause-files : goal.returns-clause-files
returns-clause-files c = read_is_spelled

pub returns-clause-formulas : goal.returns-clause-formulas
returns-clause-formulas c = formula_is_spelled
