use Rattle.run_laws.specs.EndsLaws.{valid_ends}
use Rattle.run_laws.proofs.runs_of_valid_shaders_end_or_are_cut.Goals as goal

pub returns : goal.returns
returns c = valid_ends
