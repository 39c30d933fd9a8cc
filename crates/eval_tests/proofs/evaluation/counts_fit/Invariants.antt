use Rattle.std.proofs.Common.{◌≡◌, map, take}
use Rattle.op_eval.specs.Views.{count_at}
use Rattle.eval_tests.proofs.evaluation.counts_fit.Given as goal

abbrev pub invariant-loop-at : goal.invariant-loop-at
invariant-loop-at l = map (λ input. count_at input.count l.count) (take l.at l.sources) ≡ take l.at l.counts
