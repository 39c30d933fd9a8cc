-- High words of products.
use Rattle.std.proofs.Common.{◌≡◌, ℕ, ◌+◌, ◌-◌, ◌*◌, ◌/◌, ◌%◌, ◌^◌, ◌<◌, ◌≤◌, pos, negsuc, sym, ◌∙◌, ap, arith, mod-eq_of_lt, mod-lt}
use Rattle.std.specs.Prelude.{ℤ, ◌*ℤ◌}
use Rattle.std.specs.Int.{Width}
use Rattle.std.specs.Int.RustNames.{FitsSigned, unsigned_abs}
use Rattle.std.proofs.lemmas.Int.{fits_signed_mul}
use Rattle.std.proofs.lemmas.Nat.{pow_pos, mod-pow-add, pow-add}
use Rattle.std.proofs.Math.Pow.{field, high}
use mir.Val.{hbits}
use Rattle.op_eval.specs.Word.{residue, floor_div}
use Rattle.op_eval.proofs.WordLemmas.{others}

-- the high word of an unsigned product
pub high_is : (w lo hi p : ℕ) → lo + hi * 2 ^ w ≡ p → lo < 2 ^ w → hi < 2 ^ w → hi ≡ residue w (pos (p / 2 ^ w))
unfolding residue
high_is w lo hi p e f g =
    let whole : hi * 2 ^ w + lo ≡ p = omega arith in
    let top : p / 2 ^ w ≡ hi = ap (λ n. n / 2 ^ w) (sym whole) ∙ high hi w f in
    sym (ap (λ n. n % 2 ^ w) top ∙ mod-eq_of_lt g)

-- the high word of a double word
pub high_word : (w : ℕ) (z : ℤ) → residue (w + w) z / 2 ^ w ≡ residue w (floor_div z (pos (2 ^ w)))
unfolding residue floor_div
high_word w (pos n) = field n w w
high_word w (negsuc n) =
    let b : ℕ = 2 ^ w in
    let hi : ℕ = n / b % b in
    let lo : ℕ = n % b in
    let positive : 0 < b = pow_pos w in
    let hi_fits : hi < b = mod-lt (n / b) positive in
    let lo_fits : lo < b = mod-lt n positive in
    let square : 2 ^ (w + w) ≡ b * b = pow-add 2 w w in
    let parts : n % 2 ^ (w + w) ≡ hi * b + lo = mod-pow-add n w w in
    let flipped : 2 ^ (w + w) - 1 - n % 2 ^ (w + w) ≡ (b - 1 - hi) * b + (b - 1 - lo) = rw (parts, square) (others b b hi lo hi_fits lo_fits) in
    ap (λ m. m / b) flipped ∙ high (b - 1 - hi) w {lo = b - 1 - lo} (omega arith)

abs_le : (w : Width) (z : ℤ) → FitsSigned w z → unsigned_abs z ≤ 2 ^ hbits w
abs_le w (pos n) h = omega (arith, h.sfits)
abs_le w (negsuc n) h = h.sfits

-- a product of two signed numbers fits twice the bits
pub product_fits_signed : (v w : Width) (s t : ℤ) → FitsSigned v s → FitsSigned v t → 2 ^ hbits v * 2 ^ hbits v < 2 ^ hbits w → FitsSigned w (s *ℤ t)
product_fits_signed v w s t f g small = fits_signed_mul w s t (2 ^ hbits v) (2 ^ hbits v) (abs_le v s f) (abs_le v t g) small
