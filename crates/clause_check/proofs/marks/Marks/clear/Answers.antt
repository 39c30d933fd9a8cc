use Rattle.std.proofs.Common.{subst}
use Rattle.clause_check.proofs.MarkedLemmas.{AreBacked, backed_less}
use Rattle.clause_check.proofs.marks.Marks.clear.Goals as goal

pub places-preserved : goal.places-preserved
places-preserved c =
    let l = c.places in
    record { backed = backed_less l.self-inside.flags c.pop.new.self c.in-Some.place (subst (AreBacked l.self-inside.flags) c.in-Some.ensures.parts l.invariant.backed) }
