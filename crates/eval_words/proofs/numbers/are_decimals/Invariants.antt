-- whether all pieces are read rests on those left
use Rattle.std.proofs.Common.{◌≡◌, length, map}
use Rattle.std.specs.Prelude.{is_some}
use Rattle.eval_words.specs.EvalWords.{all_some, decimal_of, pieces}
use Rattle.eval_words.proofs.numbers.are_decimals.Given as goal

abbrev pub invariant-pieces : goal.invariant-pieces
invariant-pieces l = is_some (all_some (map decimal_of (pieces l.rest))) ≡ is_some (all_some (map decimal_of (pieces l.fn.text)))

abbrev pub decreases-pieces : goal.decreases-pieces
decreases-pieces l = length l.rest
