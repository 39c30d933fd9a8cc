-- whether all words are read rests on those left, and on whether the repeats were told
use Rattle.std.proofs.Common.{◌≡◌, drop, false}
use Rattle.eval_words.specs.EvalWords.{are_read}
use Rattle.eval_words.proofs.words.are_read.Given as goal

abbrev pub invariant-loop-word : goal.invariant-loop-word
invariant-loop-word l = are_read l.told (drop l.word-index l.words) ≡ are_read false l.words
