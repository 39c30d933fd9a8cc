-- so many steps were done as turns
use Rattle.rewrite_pass.specs.Rewriting.{Advances}
use Rattle.rewrite_pass.proofs.rounds.rewrite_here.Given as goal

abbrev pub invariant-loop-count : goal.invariant-loop-count
invariant-loop-count g l = Advances l.options l.table l.fn.work.shader l.work.shader l.fn.journal l.journal l.count
