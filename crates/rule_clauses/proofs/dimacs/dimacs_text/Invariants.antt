use Rattle.std.proofs.Common.{◌≡◌, ◌++◌, drop}
use Rattle.std.specs.List.{flat_map}
use Rattle.rule_clauses.specs.Dimacs.{clause_line, dimacs_text}
use Rattle.rule_clauses.proofs.dimacs.dimacs_text.Given as goal

abbrev pub invariant-loop-clause : goal.invariant-loop-clause
invariant-loop-clause l = l.out.items ++ flat_map clause_line (drop l.clause-index l.clauses) ≡ dimacs_text l.clauses
