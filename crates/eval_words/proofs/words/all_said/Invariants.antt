-- what was said, and then what the words left say, is what all say
use Rattle.std.proofs.Common.{◌≡◌, drop, map}
use Rattle.eval_words.specs.EvalWords.{all_some, said}
use Rattle.eval_words.proofs.WordLemmas.{behind}
use Rattle.eval_words.proofs.words.all_said.Given as goal

abbrev pub invariant-loop-word : goal.invariant-loop-word
invariant-loop-word l = behind l.all (all_some (map said (drop l.word-index l.words))) ≡ all_some (map said l.words)
