-- Fields of bits as the machine makes them.
use Rattle.std.proofs.Common.{◌≡◌, ℕ, ◌-◌, ◌*◌, ◌/◌, ◌%◌, ◌^◌, ◌<◌, ◌≤◌, pos, negsuc, sym, ◌∙◌, ap, bit_and, mod-eq_of_lt, one-mul, le_of_lt, lt_of_le_of_lt, lt_of_lt_of_le, mod-lt, le_trans}
use Rattle.std.proofs.Math.Pow.{pow-lt, pow_mono, shr_le}
use Rattle.std.proofs.Math.Nat.{div-eq_of_lt, mod-le}
use Rattle.std.specs.Prelude.{ℤ}
use Rattle.std.specs.Int.{int_shr, w64}
use Rattle.std.specs.Int.RustNames.{FitsSigned}
use Rattle.std.proofs.lemmas.Nat.{and_mod, and_mask, and_le_l, pow_pos}
use Rattle.op_eval.specs.Word.{field, floor_div}

-- one raised by a place within the word
pub one_raised : (place : ℕ) → place < 64 → 1 * 2 ^ place % 2 ^ 64 ≡ 2 ^ place
one_raised place h = ap (λ m. m % 2 ^ 64) (one-mul (2 ^ place)) ∙ mod-eq_of_lt (pow-lt h)

-- a mask of ones keeps the low bits
pub low_bits_are : (n count : ℕ) → count < 64 → bit_and n (1 * 2 ^ count % 2 ^ 64 - 1) ≡ n % 2 ^ count
low_bits_are n count h = ap (λ m. bit_and n (m - 1)) (one_raised count h) ∙ and_mask n count

-- what passes the mask's bits does not show under the mask
pub and_wrapped : (mask n : ℕ) → mask < 2 ^ 64 → bit_and mask (n % 2 ^ 64) ≡ bit_and mask n
and_wrapped mask n h =
    ap (λ m. bit_and m (n % 2 ^ 64)) (sym (mod-eq_of_lt h)) ∙ sym (and_mod mask n 64) ∙ mod-eq_of_lt (lt_of_le_of_lt (and_le_l mask n) h)

-- so few bits fit 32 bits
pub few_bits_fit : (n count : ℕ) → count < 32 → n % 2 ^ count < 2 ^ 32
few_bits_fit n count h = lt_of_lt_of_le (mod-lt n (pow_pos count)) (le_of_lt (pow-lt h))

-- past its top a word has no bits
pub far_field : (x place count : ℕ) → x < 2 ^ 64 → 64 ≤ place → field x place count ≡ 0
unfolding field
far_field x place count f g =
    let none : x / 2 ^ place ≡ 0 = div-eq_of_lt (lt_of_lt_of_le f (pow_mono g)) in
    ap (λ n. n % 2 ^ count) none ∙ mod-eq_of_lt (pow_pos count)

-- a field of a word fits the word
pub field_fits : (width x place count : ℕ) → x < 2 ^ width → field x place count < 2 ^ width
unfolding field
field_fits width x place count f = lt_of_le_of_lt (le_trans (mod-le (x / 2 ^ place) (2 ^ count)) (shr_le x place)) f

-- past its top a signed number of 64 bits is its sign
pub far_shift : (z : ℤ) (k : ℕ) → FitsSigned w64 z → 63 ≤ k → int_shr z 63 ≡ floor_div z (pos (2 ^ k))
unfolding floor_div
far_shift (pos n) k f g =
    let near : n / 2 ^ 63 ≡ 0 = div-eq_of_lt f.sfits in
    let far : n / 2 ^ k ≡ 0 = div-eq_of_lt (lt_of_lt_of_le f.sfits (pow_mono g)) in
    ap pos (near ∙ sym far)
far_shift (negsuc n) k f g =
    let near : n / 2 ^ 63 ≡ 0 = div-eq_of_lt f.sfits in
    let far : n / 2 ^ k ≡ 0 = div-eq_of_lt (lt_of_lt_of_le f.sfits (pow_mono g)) in
    ap negsuc (near ∙ sym far)
