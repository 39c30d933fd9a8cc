use Rattle.rule_spelling.specs.NumberedLaws.{weights_are_good}
use Rattle.rule_spelling.proofs.weights_are_good.Goals as goal

pub returns : goal.returns
returns c = weights_are_good
