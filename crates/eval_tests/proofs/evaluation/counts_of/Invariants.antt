use Rattle.std.proofs.Common.{◌≡◌, length, map, take}
use Rattle.eval_tests.proofs.evaluation.counts_of.Given as goal

abbrev pub invariant-loop-view : goal.invariant-loop-view
invariant-loop-view l = l.counts ≡ map (λ view. length view.comps) (take l.view-index l.views)
