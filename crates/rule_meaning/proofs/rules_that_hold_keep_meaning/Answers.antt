use Rattle.rule_meaning.specs.PutLaws.{put-keeps}
use Rattle.rule_meaning.proofs.rules_that_hold_keep_meaning.Goals as goal

pub returns : goal.returns
returns c = put-keeps
