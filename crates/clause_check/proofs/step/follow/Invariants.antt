use Rattle.std.proofs.Common.{◌≡◌, drop}
use Rattle.clause_check.specs.Logs.{follow}
use Rattle.clause_check.specs.Marked.{clauses_before}
use Rattle.clause_check.proofs.step.follow.Given as goal

-- the hints that are left are followed where the literals are false that are so by now
abbrev pub invariant-loop-hint : goal.invariant-loop-hint
invariant-loop-hint l = record { so_far : follow (clauses_before l.before) (drop l.hint-index l.hints) l.marks ≡ follow (clauses_before l.before) l.hints l.fn.marks }
