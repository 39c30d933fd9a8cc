use Rattle.rule_check.specs.VerdictsLaws.{accepted_hold, refused_are_just}
use Rattle.rule_check.proofs.file.verdicts_are_meant.Goals as goal

pub returns-clause-accepted : goal.returns-clause-accepted
returns-clause-accepted c = accepted_hold

pub returns-clause-refused : goal.returns-clause-refused
returns-clause-refused c = refused_are_just
