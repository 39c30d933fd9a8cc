use Rattle.rule_spelling.specs.FormedLaws.{rules_are_formed}
use Rattle.rule_spelling.specs.NumberedLaws.{rules_are_numbered}
use Rattle.rule_spelling.proofs.rules_are_formed.Goals as goal

pub returns-clause-formed : goal.returns-clause-formed
returns-clause-formed c = rules_are_formed c.formed_is_tested.ensures

pub returns-clause-numbered : goal.returns-clause-numbered
returns-clause-numbered c = rules_are_numbered
