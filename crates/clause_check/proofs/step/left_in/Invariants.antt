use Rattle.std.proofs.Common.{◌≡◌, drop}
use Rattle.clause_check.specs.Logs.{left_in}
use Rattle.clause_check.specs.Marked.{left_with, not_false}
use Rattle.clause_check.proofs.step.left_in.Given as goal

-- what was left so far, and the literals that come
abbrev pub invariant-loop-literal : goal.invariant-loop-literal
invariant-loop-literal l = record { so_far : left_with l.left (not_false l.marks (drop l.literal-index l.clause)) ≡ left_in l.marks l.clause }
