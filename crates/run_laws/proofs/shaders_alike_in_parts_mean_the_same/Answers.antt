use Rattle.run_laws.specs.AgreeLaws.{alike_parts-mean_same}
use Rattle.run_laws.proofs.shaders_alike_in_parts_mean_the_same.Goals as goal

pub returns : goal.returns
returns c = alike_parts-mean_same
