use Rattle.std.proofs.Common.{◌≡◌, drop, Some}
use Rattle.nir_lex.specs.Numbers.{word_of}
use Rattle.std.specs.Str.Parse.{digits_value, digits_value_after}
use Rattle.eval_words.proofs.numbers.digits_value.Given as goal

abbrev pub invariant-loop-digit : goal.invariant-loop-digit
invariant-loop-digit l = (digits_value_after 10 l.value (drop l.digit-index l.digits) ≡ digits_value 10 l.digits) × (word_of l.value ≡ Some l.value)
