use Rattle.rule_meaning.specs.StepSame.{replay_same}
use Rattle.rule_meaning.proofs.legal_steps_keep_meaning.Goals as goal

pub returns : goal.returns
returns c = replay_same
