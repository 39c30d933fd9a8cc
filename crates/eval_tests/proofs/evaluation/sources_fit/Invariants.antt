use Rattle.std.proofs.Common.{◌≡◌, map, take}
use Rattle.op_eval.specs.Calls.{size_at}
use Rattle.eval_tests.proofs.evaluation.sources_fit.Given as goal

abbrev pub invariant-loop-at : goal.invariant-loop-at
invariant-loop-at l = map (λ input. size_at input.kind.size l.width) (take l.at l.sources) ≡ take l.at l.widths
