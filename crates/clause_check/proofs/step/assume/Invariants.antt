use Rattle.std.proofs.Common.{◌≡◌, [], ◌++◌, drop}
use Rattle.clause_check.specs.Logs.{clashes}
use Rattle.clause_check.proofs.step.assume.Given as goal

-- the literals that are left clash with those that are false by now, which stand before them
abbrev pub invariant-loop-literal : goal.invariant-loop-literal
invariant-loop-literal l = record {
  so_far : clashes l.marks (drop l.literal-index l.clause) ≡ clashes [] l.clause;
  whole : l.marks ++ drop l.literal-index l.clause ≡ l.clause;
}
