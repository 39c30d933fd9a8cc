-- whether all digits are read rests on those left
use Rattle.std.proofs.Common.{◌≡◌, length}
use Rattle.std.specs.Prelude.{is_some}
use Rattle.eval_words.specs.EvalWords.{bytes_in_hex}
use Rattle.eval_words.proofs.numbers.are_hex.Given as goal

abbrev pub invariant-digits : goal.invariant-digits
invariant-digits l = is_some (bytes_in_hex l.rest) ≡ is_some (bytes_in_hex l.fn.text)

abbrev pub decreases-digits : goal.decreases-digits
decreases-digits l = length l.rest
