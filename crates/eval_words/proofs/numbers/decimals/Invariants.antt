-- what was read, and then the pieces left, are those of the whole
use Rattle.std.proofs.Common.{◌≡◌, length, map}
use Rattle.eval_words.specs.EvalWords.{all_some, decimal_of, pieces}
use Rattle.eval_words.proofs.WordLemmas.{behind}
use Rattle.eval_words.proofs.numbers.decimals.Given as goal

abbrev pub invariant-pieces : goal.invariant-pieces
invariant-pieces l = behind l.comps (all_some (map decimal_of (pieces l.rest))) ≡ all_some (map decimal_of (pieces l.fn.text))

abbrev pub decreases-pieces : goal.decreases-pieces
decreases-pieces l = length l.rest
