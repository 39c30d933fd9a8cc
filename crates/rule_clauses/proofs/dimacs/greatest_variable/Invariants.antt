use Rattle.std.proofs.Common.{◌≡◌, drop, max}
use Rattle.rule_clauses.specs.Dimacs.{greatest_variable}
use Rattle.rule_clauses.proofs.dimacs.greatest_variable.Given as goal

abbrev pub invariant-loop-clause : goal.invariant-loop-clause
invariant-loop-clause l = max l.greatest (greatest_variable (drop l.clause-index l.clauses)) ≡ greatest_variable l.clauses
