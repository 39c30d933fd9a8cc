use Rattle.std.proofs.Common.{length}
use Rattle.clause_check.proofs.MarkedLemmas.{AreBacked}
use Rattle.clause_check.proofs.marks.Marks.clear.Given as goal

-- each flag that is set is that of a place that is still to be taken back
abbrev pub invariant-places : goal.invariant-places
invariant-places l = record { backed : AreBacked l.self-inside.flags l.self-inside.places }

abbrev pub decreases-places : goal.decreases-places
decreases-places l = length l.self-inside.places
