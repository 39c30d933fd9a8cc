use Rattle.std.proofs.Common.{◌≡◌, drop}
use Rattle.clause_check.specs.Logs.{has_empty}
use Rattle.clause_check.proofs.check.has_empty.Given as goal

-- whether one of the steps that are left has the empty clause
abbrev pub invariant-loop-step : goal.invariant-loop-step
invariant-loop-step l = record { so_far : has_empty (drop l.step-index l.steps) ≡ has_empty l.steps }
