use Rattle.std.proofs.Common.{◌≡◌, ◌++◌, drop}
use Rattle.rule_clauses.specs.Dimacs.{clause_line}
use Rattle.rule_clauses.proofs.dimacs.push_clause.Given as goal

abbrev pub invariant-loop-literal : goal.invariant-loop-literal
invariant-loop-literal l = l.out.items ++ clause_line (drop l.literal-index l.clause) ≡ l.fn.out.items ++ clause_line l.clause
