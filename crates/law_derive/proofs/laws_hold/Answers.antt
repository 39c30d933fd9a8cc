use Rattle.law_derive.specs.LawsHoldLaws.{laws_hold}
use Rattle.law_derive.proofs.laws_hold.Goals as goal

pub returns : goal.returns
returns c = laws_hold
