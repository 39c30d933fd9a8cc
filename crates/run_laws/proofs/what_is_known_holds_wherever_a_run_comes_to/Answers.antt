use Rattle.run_laws.specs.CentralLaws.{valid-is_known}
use Rattle.run_laws.proofs.what_is_known_holds_wherever_a_run_comes_to.Goals as goal

pub returns : goal.returns
returns c = valid-is_known
