use Rattle.std.proofs.Common.{◌≡◌, ◌++◌, [], drop, take}
use Rattle.clause_check.specs.Logs.{fault_from}
use Rattle.clause_check.specs.Marked.{clauses_of}
use Rattle.clause_check.proofs.check.check_log.Given as goal

-- the steps that are left stand behind the clauses and those of the steps before
abbrev pub invariant-loop-at : goal.invariant-loop-at
invariant-loop-at l = record {
  so_far : fault_from l.at (l.clauses ++ clauses_of (take l.at l.steps)) (drop l.at l.steps) ≡ fault_from 0 l.clauses l.steps;
  cleared : l.marks ≡ [];
}
