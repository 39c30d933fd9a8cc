-- so many steps were done, and one or more in each pass
use Rattle.std.proofs.Common.{◌≤◌}
use Rattle.rewrite_pass.specs.Rewriting.{Advances}
use Rattle.rewrite_pass.proofs.rounds.rewrite_all.Given as goal

abbrev pub invariant-loop-pass : goal.invariant-loop-pass
invariant-loop-pass g l = record {
  steps : Advances l.options l.table l.fn.work.shader l.work.shader l.fn.journal l.journal l.done;
  few : l.done ≤ l.limit;
  many : l._pass ≤ l.done;
}
