use Rattle.rule_spelling.specs.TextLaws.{spelled_is_read, formula_is_read}
use Rattle.rule_spelling.proofs.spelled_is_read.Goals as goal

pub returns-clause-files : goal.returns-clause-files
returns-clause-files c = spelled_is_read

pub returns-clause-formulas : goal.returns-clause-formulas
returns-clause-formulas c = formula_is_read
