use Rattle.term_read.proofs.Stood.{first_stands}
use Rattle.term_read.proofs.point.Point.first.Goals as goal

pub invariant_of-result : goal.invariant_of-result
invariant_of-result c = record { stands = first_stands c.args.text.now c.token_from.result c.requires c.token_from.ensures }
