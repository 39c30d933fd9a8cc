use Rattle.run_laws.specs.KindsLaws.{run_list-kinds}
use Rattle.run_laws.proofs.runs_ask_for_the_kinds_of_what_is_used.Goals as goal

pub returns : goal.returns
returns c = run_list-kinds
