-- The numbers that a text can write: decimal or hexadecimal digits as everywhere, from -2^63 to 2^64 - 1.
use Rattle.std.specs.Prelude.{ℕ, ◌^◌, ℤ, pos, negsuc, nat_lt, Option, Some, None, if◌then◌else◌}

-- a size that 64 bits hold
abbrev pub word_of : ℕ → Option ℕ
word_of size = if nat_lt size (2 ^ 64) then Some size else None

-- a number within the limits; negsuc size is -(size + 1)
unfoldable pub limited : ℤ → Option ℤ
limited (pos size) = if nat_lt size (2 ^ 64) then Some (pos size) else None
limited (negsuc size) = if nat_lt size (2 ^ 63) then Some (negsuc size) else None
