-- Words of a bit size, after two's complement: the signed reading of a word, the word that a whole number leaves, and the parts of the opcodes' formulas.
use Rattle.std.specs.Prelude.{ℕ, ◌+◌, ◌-◌, ◌*◌, ◌/◌, ◌%◌, ◌^◌, suc, ℤ, pos, negsuc, neg_ℤ, ◌-ℤ◌, ◌*ℤ◌, Bool, cond, nat_lt, ◌==◌}
use Rattle.std.specs.Int.{div_ceil}
use Rattle.std.specs.Int.RustNames.{int_div, bit_and, bit_or}
use Rattle.std.specs.Int.Count.{count_leading_zeros, count_trailing_zeros}

-- the signed reading: x below half of 2 ^ width, else x less 2 ^ width
unfoldable pub signed : ℕ → ℕ → ℤ
signed width x = cond (nat_lt x (2 ^ (width - 1))) (pos x) (negsuc (2 ^ width - suc x))

-- z modulo 2 ^ width
unfoldable pub residue : ℕ → ℤ → ℕ
residue width (pos n) = n % 2 ^ width
residue width (negsuc n) = 2 ^ width - 1 - n % 2 ^ width

-- 1 where the test holds, else 0
abbrev pub truth : Bool → ℤ
truth test = cond test (pos 1) (pos 0)

-- the quotient rounded down
unfoldable pub floor_div : ℤ → ℤ → ℤ
floor_div (pos a) (pos b) = pos (a / b)
floor_div (pos a) (negsuc b) = neg_ℤ (pos (div_ceil a (suc b)))
floor_div (negsuc a) (pos b) = negsuc (a / b)
floor_div (negsuc a) (negsuc b) = pos (suc a / suc b)

-- what is left of x over y where the quotient is rounded towards 0
unfoldable pub truncated_rest : ℤ → ℤ → ℤ
truncated_rest x y = x -ℤ (y *ℤ int_div x y)

-- what is left of x over y where the quotient is rounded down
unfoldable pub floored_rest : ℤ → ℤ → ℤ
floored_rest x y = x -ℤ (y *ℤ floor_div x y)

-- x shifted up by so many bits, and its top so many bits below
unfoldable pub rotated : ℕ → ℕ → ℕ → ℕ
rotated width x places = x * 2 ^ places + x / 2 ^ (width - places)

-- each bit negated
abbrev pub negated : ℕ → ℕ → ℕ
negated width x = 2 ^ width - 1 - x

-- the bits of a where the mask has 1, and of b where it has 0
unfoldable pub picked : ℕ → ℕ → ℕ → ℕ → ℕ
picked width mask a b = bit_or (bit_and mask a) (bit_and (negated width mask) b)

-- the place of the highest 1 of a word, which has at most 64 bits, and -1 for 0
unfoldable pub highest_one : ℕ → ℤ
highest_one x = cond (x == 0) (negsuc 0) (pos (63 - count_leading_zeros 64 x))

-- the place of the lowest 1 of a word, and -1 for 0
unfoldable pub lowest_one : ℕ → ℤ
lowest_one x = cond (x == 0) (negsuc 0) (pos (count_trailing_zeros 64 x))

-- so many bits of a word from a place on
unfoldable pub field : ℕ → ℕ → ℕ → ℕ
field x place count = x / 2 ^ place % 2 ^ count

-- bits of a word of 32 from a place on, read as signed; where they would pass the top, what is left from the place on
unfoldable pub signed_field : ℕ → ℕ → ℕ → ℤ
signed_field x place count =
    cond (nat_lt (place + count) 32) (signed count (field x place count)) (floor_div (signed 32 x) (pos (2 ^ place)))

-- piece y of so many bits of z, read as signed
unfoldable pub signed_piece : ℕ → ℤ → ℕ → ℤ
signed_piece count z y = signed count (residue count (floor_div z (pos (2 ^ (count * y)))))
