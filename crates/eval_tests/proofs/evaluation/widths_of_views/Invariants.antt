use Rattle.std.proofs.Common.{◌≡◌, map, take}
use Rattle.eval_tests.proofs.evaluation.widths_of_views.Given as goal

abbrev pub invariant-loop-view : goal.invariant-loop-view
invariant-loop-view l = l.widths ≡ map (λ view. view.width) (take l.view-index l.views)
