-- Words and the numbers that they stand for: a number that fits is its own residue, and a signed word reads back.
use Rattle.std.proofs.Common.{◌≡◌, ℕ, zero, suc, ◌+◌, ◌-◌, ◌*◌, ◌/◌, ◌%◌, ◌^◌, ◌<◌, ◌≤◌, pos, negsuc, sym, ◌∙◌, arith, mod-eq_of_lt, mod-lt, pow-suc, ap, add-mul, lt_of_lt_of_le, true, false, nat_lt, lit≤, subst}
use Rattle.std.specs.Prelude.{ℤ}
use Rattle.std.specs.Int.{Width, cast_unsigned, cast_signed}
use Rattle.std.proofs.lemmas.Int.{to_z-of_z}
use Rattle.std.specs.Int.RustNames.{FitsSigned}
use Rattle.std.proofs.lemmas.Nat.{pow_pos, mod-pow-add, pow-add}
use Rattle.std.proofs.Math.Pow.{mod-mod-pow, low}
use Rattle.std.proofs.lemmas.Bool.{lt-ltb, le-ltb}
use mir.Val.{bits, hbits}
use Rattle.nir_ops.specs.declared.width.Width.{Width as BitSize}
use Rattle.nir_ops.specs.declared.width.Width.TheVariants.{W1, W8, W16, W32, W64}
use Rattle.nir_ops.specs.Width.{width_bits}
use Rattle.op_eval.specs.Word.{residue, signed}

-- a number that fits is its own residue
pub residue_below : (width n : ℕ) → n < 2 ^ width → residue width (pos n) ≡ n
unfolding residue
residue_below width n h = mod-eq_of_lt h

pub residue_lt : (width : ℕ) (z : ℤ) → residue width z < 2 ^ width
unfolding residue
residue_lt width (pos n) = mod-lt n (pow_pos width)
residue_lt width (negsuc n) = let p : 0 < 2 ^ width = pow_pos width in omega arith

-- half of the power of a bit size, twice
pub twice_half : (width : ℕ) → 0 < width → 2 ^ (width - 1) + 2 ^ (width - 1) ≡ 2 ^ width
twice_half zero h = elim h [ ]
twice_half (suc n) h = let e : suc n - 1 ≡ n = omega arith in let p : 2 ^ suc n ≡ 2 ^ n * 2 = pow-suc 2 n in rw e (omega (arith, p))

-- the bits of a signed number are its residue
pub cast_residue : (w : Width) (z : ℤ) → FitsSigned w z → 2 ^ hbits w ≤ 2 ^ bits w → cast_unsigned w z ≡ residue (bits w) z
unfolding residue
cast_residue w (pos n) h le = let small : n < 2 ^ bits w = omega (arith, h.sfits) in sym (mod-eq_of_lt small)
cast_residue w (negsuc n) h le = let small : n < 2 ^ bits w = omega (arith, h.sfits) in let e : n % 2 ^ bits w ≡ n = mod-eq_of_lt small in rw e (omega arith)

-- each bit of a number of two parts negated, part by part
pub others : (a b hi lo : ℕ) → hi < a → lo < b → a * b - 1 - (hi * b + lo) ≡ (a - 1 - hi) * b + (b - 1 - lo)
others a b hi lo f g =
    let rest : ℕ = a - 1 - hi in
    let whole : a ≡ rest + (hi + 1) = omega arith in
    let product : a * b ≡ rest * b + (hi + 1) * b = ap (λ n. n * b) whole ∙ add-mul rest (hi + 1) b in
    omega (arith, product)

-- the low bits of a residue are the residue in fewer bits
pub residue_cut : (j k : ℕ) (z : ℤ) → residue (j + k) z % 2 ^ k ≡ residue k z
unfolding residue
residue_cut j k (pos n) = mod-mod-pow n j k
residue_cut j k (negsuc n) =
    let a : ℕ = 2 ^ j in
    let b : ℕ = 2 ^ k in
    let hi : ℕ = n / b % a in
    let lo : ℕ = n % b in
    let hi_fits : hi < a = mod-lt (n / b) (pow_pos j) in
    let lo_fits : lo < b = mod-lt n (pow_pos k) in
    let square : 2 ^ (j + k) ≡ a * b = pow-add 2 j k in
    let parts : n % 2 ^ (j + k) ≡ hi * b + lo = mod-pow-add n j k in
    let flipped : 2 ^ (j + k) - 1 - n % 2 ^ (j + k) ≡ (a - 1 - hi) * b + (b - 1 - lo) = rw (parts, square) (others a b hi lo hi_fits lo_fits) in
    ap (λ m. m % b) flipped ∙ low (a - 1 - hi) k {lo = b - 1 - lo} (omega arith)

-- a signed reading of fewer than 32 bits, in 32 bits
pub signed_low : (count word : ℕ) → word < 2 ^ (count - 1) → 2 ^ (count - 1) ≤ 2 ^ 32 → word ≡ residue 32 (signed count word)
unfolding residue signed
signed_low count word f g =
    let chosen : nat_lt word (2 ^ (count - 1)) ≡ true = lt-ltb word (2 ^ (count - 1)) f in
    rw chosen (let small : word < 2 ^ 32 = lt_of_lt_of_le f g in sym (mod-eq_of_lt small))

pub signed_high : (count word : ℕ) → 2 ^ (count - 1) ≤ word → word < 2 ^ count → 2 ^ count ≤ 2 ^ 32 → word + 2 ^ 32 - 2 ^ count ≡ residue 32 (signed count word)
unfolding residue signed
signed_high count word f g h =
    let chosen : nat_lt word (2 ^ (count - 1)) ≡ false = le-ltb word (2 ^ (count - 1)) f in
    rw chosen (let small : 2 ^ count - suc word < 2 ^ 32 = omega arith in rw (mod-eq_of_lt small) (omega arith))

-- no bit size passes 64
pub width_small : (width : BitSize) → width_bits width ≤ 64
width_small W1 = lit≤ tt
width_small W8 = lit≤ tt
width_small W16 = lit≤ tt
width_small W32 = lit≤ tt
width_small W64 = lit≤ tt

pub residue_within : (to : ℕ) (z : ℤ) → to ≤ 64 → residue 64 z % 2 ^ to ≡ residue to z
residue_within to z h =
    let whole : (64 - to) + to ≡ 64 = omega arith in
    subst (λ n. residue n z % 2 ^ to ≡ residue to z) whole (residue_cut (64 - to) to z)

-- the bits of a signed number that was passed on are its residue
pub word_of : (w : Width) (z : ℤ) → FitsSigned w z → 2 ^ hbits w ≤ 2 ^ bits w → cast_unsigned w (cast_signed w (cast_unsigned w z)) ≡ residue (bits w) z
word_of w z f le = ap (cast_unsigned w) (to_z-of_z w z f) ∙ cast_residue w z f le

-- a signed number that was passed on reads back
pub reread : (w : Width) (z s : ℤ) → FitsSigned w z → z ≡ s → cast_signed w (cast_unsigned w z) ≡ s
reread w z s f e = to_z-of_z w z f ∙ e

-- the same, passed on in its own bits and then in more
pub reread_wide : (v w : Width) (z s : ℤ) → FitsSigned v z → 2 ^ hbits v ≤ 2 ^ hbits w → z ≡ s → cast_signed w (cast_unsigned w (cast_signed v (cast_unsigned v z))) ≡ s
reread_wide v w z s f le e =
    let wide : FitsSigned w z = record { sfits = lt_of_lt_of_le f.sfits le } in
    ap (λ n. cast_signed w (cast_unsigned w n)) (to_z-of_z v z f) ∙ to_z-of_z w z wide ∙ e
