-- what was read, and then the digits left, are those of the whole
use Rattle.std.proofs.Common.{◌≡◌, length}
use Rattle.eval_words.specs.EvalWords.{bytes_in_hex}
use Rattle.eval_words.proofs.WordLemmas.{behind}
use Rattle.eval_words.proofs.numbers.bytes_in_hex.Given as goal

abbrev pub invariant-digits : goal.invariant-digits
invariant-digits l = behind l.bytes (bytes_in_hex l.rest) ≡ bytes_in_hex l.fn.text

abbrev pub decreases-digits : goal.decreases-digits
decreases-digits l = length l.rest
