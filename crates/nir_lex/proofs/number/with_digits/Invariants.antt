use Rattle.std.proofs.Common.{◌≡◌, ◌<◌, ◌^◌, drop}
use Rattle.std.specs.Str.Parse.{digits_value_after}
use Rattle.nir_lex.proofs.number.with_digits.Given as goal

-- the digits that are left make of the value what all make of the start
abbrev pub invariant-loop-digit : goal.invariant-loop-digit
invariant-loop-digit l =
    (digits_value_after l.radix l.value (drop l.digit-index l.digits) ≡ digits_value_after l.radix l.start l.digits) × (l.value < 2 ^ 64)
