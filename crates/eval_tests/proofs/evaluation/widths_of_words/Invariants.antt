use Rattle.std.proofs.Common.{◌≡◌, map, take}
use Rattle.eval_tests.proofs.evaluation.widths_of_words.Given as goal

abbrev pub invariant-loop-word : goal.invariant-loop-word
invariant-loop-word l = l.widths ≡ map (λ word. word.width) (take l.word-index l.words)
