use Rattle.run_laws.specs.AgreeLaws.{changed_parts-mean_same}
use Rattle.run_laws.proofs.shaders_changed_in_parts_mean_the_same.Goals as goal

pub returns : goal.returns
returns c = changed_parts-mean_same
