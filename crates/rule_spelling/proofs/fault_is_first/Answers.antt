use Rattle.rule_spelling.specs.TextLaws.{fault_is_first}
use Rattle.rule_spelling.proofs.fault_is_first.Goals as goal

pub returns : goal.returns
returns c = fault_is_first
