use Rattle.run_laws.specs.InPlaceLaws.{in_place-keeps}
use Rattle.run_laws.proofs.placed_instructions_keep_meaning.Goals as goal

pub returns : goal.returns
returns c = in_place-keeps
