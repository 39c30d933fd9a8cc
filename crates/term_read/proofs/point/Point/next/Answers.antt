use Rattle.term_read.proofs.Stood.{next_stands}
use Rattle.term_read.proofs.point.Point.next.Goals as goal

pub invariant_of-result : goal.invariant_of-result
invariant_of-result c =
    let p = c.args.self.now in
    record { stands = next_stands p.text.now p.token c.token_from.result p.stands c.requires c.token_from.ensures }
