use Rattle.rule_term.proofs.FormedLemmas.{formed_is_tested as tested}
use Rattle.rule_term.proofs.formed.formed_is_tested.Goals as goal

pub returns : goal.returns
returns c = tested
