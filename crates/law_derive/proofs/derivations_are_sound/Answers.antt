use Rattle.law_derive.specs.DerivationsLaws.{derivations_are_sound}
use Rattle.law_derive.proofs.derivations_are_sound.Goals as goal

pub returns : goal.returns
returns c = derivations_are_sound
