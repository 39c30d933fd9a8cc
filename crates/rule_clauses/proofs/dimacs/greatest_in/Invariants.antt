use Rattle.std.proofs.Common.{◌≡◌, drop, max}
use Rattle.rule_clauses.specs.Dimacs.{greatest_in}
use Rattle.rule_clauses.proofs.dimacs.greatest_in.Given as goal

abbrev pub invariant-loop-literal : goal.invariant-loop-literal
invariant-loop-literal l = max l.greatest (greatest_in (drop l.literal-index l.clause)) ≡ greatest_in l.clause
