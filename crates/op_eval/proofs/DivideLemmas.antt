-- The rests of the opcodes are those of the machine's signed operations.
use Rattle.std.proofs.Common.{◌≡◌, ◌≢◌, ℕ, zero, suc, ◌+◌, ◌-◌, ◌*◌, ◌/◌, ◌%◌, ◌<◌, pos, negsuc, neg_ℤ, refl, sym, ◌∙◌, ap, arith, mul-suc, mul-zero, mod-lt, zero-lt-suc, div-add-mod', subst, ◌^◌, cond, nat_lt, true, false}
use Rattle.std.specs.Prelude.{ℤ, ◌+ℤ◌, ◌-ℤ◌, ◌*ℤ◌, ◌<ℤ◌}
use Rattle.std.specs.Int.{div_ceil, int_rem_euclid}
use Rattle.std.specs.Int.RustNames.{int_div, int_rem, int_lt, FitsSigned}
use Rattle.std.specs.Int.{Width}
use Rattle.std.proofs.lemmas.Int.{ints, quot-rem}
use Rattle.std.proofs.lemmas.Bool.{ltb-false}
use Rattle.std.proofs.Math.IntN.{*ℤ_comm}
use Rattle.std.proofs.Math.Nat.{div-add-mod, mul-div_cancel_left, div-eq_of_lt-le}
use Rattle.op_eval.specs.Word.{signed, floor_div, truncated_rest, floored_rest}

minus_part : (a p r : ℤ) → p +ℤ r ≡ a → a -ℤ p ≡ r
minus_part a p r h = omega (arith, ints)

pub truncated_rest_is : (a d : ℤ) → truncated_rest a d ≡ int_rem a d
unfolding truncated_rest
truncated_rest_is a d = minus_part a (d *ℤ int_div a d) (int_rem a d) (ap (λ p. p +ℤ int_rem a d) (*ℤ_comm d (int_div a d)) ∙ quot-rem a d)

-- the product of two numbers that are not above 0
both_below : (m c : ℕ) → negsuc m *ℤ neg_ℤ (pos c) ≡ pos (suc m * c)
both_below m zero = simp mul-zero
both_below m (suc c) = refl

-- the quotient of the number after x, by the rest of x
next_quotient : (x m : ℕ) → suc (x % suc m) < suc m → suc x / suc m ≡ x / suc m
next_quotient x m h =
    let parts : x / suc m * suc m + x % suc m ≡ x = div-add-mod' x (suc m) in
    div-eq_of_lt-le (suc m) (omega arith) (omega arith)

last_quotient : (x m : ℕ) → x % suc m ≡ m → suc m * (suc x / suc m) ≡ suc x
last_quotient x m h =
    let parts : suc m * (x / suc m) + x % suc m ≡ x = div-add-mod x (suc m) in
    let more : suc m * suc (x / suc m) ≡ suc m * (x / suc m) + suc m = mul-suc (suc m) (x / suc m) in
    let whole : suc x ≡ suc m * suc (x / suc m) = omega arith in
    let top : suc x / suc m ≡ suc (x / suc m) = ap (λ n. n / suc m) whole ∙ mul-div_cancel_left (suc (x / suc m)) (zero-lt-suc m) in
    ap (λ n. suc m * n) top ∙ sym whole

pub floored_above : (a d : ℤ) → pos 0 <ℤ d → floored_rest a d ≡ int_rem_euclid a d
unfolding floored_rest floor_div
floored_above (pos x) (pos n) h = minus_part (pos x) (pos (n * (x / n))) (pos (x % n)) (ap pos (div-add-mod x n))
floored_above (pos x) (negsuc m) h = absurd h.lt
floored_above (negsuc x) (pos n) h =
    let positive : 0 < n = omega (arith, ints) in
    let rest : x % n < n = mod-lt x positive in
    let parts : n * (x / n) + x % n ≡ x = div-add-mod x n in
    let more : n * suc (x / n) ≡ n * (x / n) + n = mul-suc n (x / n) in
    minus_part (negsuc x) (neg_ℤ (pos (n * suc (x / n)))) (pos (n - 1 - x % n)) (rw more (omega (arith, ints)))
floored_above (negsuc x) (negsuc m) h = absurd h.lt

pub floored_zero : (a d : ℤ) → d <ℤ pos 0 → int_rem_euclid a d ≡ pos 0 → floored_rest a d ≡ pos 0
unfolding floored_rest floor_div
floored_zero a (pos n) h e = absurd (omega (arith, ints))
floored_zero (pos x) (negsuc m) h e =
    let none : x % suc m ≡ 0 = omega (arith, ints, e) in
    let parts : suc m * (x / suc m) + x % suc m ≡ x = div-add-mod x (suc m) in
    let ceil : div_ceil x (suc m) ≡ x / suc m = omega arith in
    minus_part (pos x) (negsuc m *ℤ neg_ℤ (pos (div_ceil x (suc m)))) (pos 0) (rw (both_below, ceil) (omega (arith, ints)))
floored_zero (negsuc x) (negsuc m) h e =
    let rest : x % suc m < suc m = mod-lt x (omega arith) in
    let last : x % suc m ≡ m = omega (arith, ints, e) in
    minus_part (negsuc x) (neg_ℤ (pos (suc m * (suc x / suc m)))) (pos 0) (rw (last_quotient x m last) (omega (arith, ints)))

pub floored_below : (a d : ℤ) → d <ℤ pos 0 → int_rem_euclid a d ≢ pos 0 → floored_rest a d ≡ int_rem_euclid a d +ℤ d
unfolding floored_rest floor_div
floored_below a (pos n) h e = absurd (omega (arith, ints))
floored_below (pos x) (negsuc m) h e =
    let some : x % suc m ≢ 0 = λ z. e (ap pos z) in
    let parts : suc m * (x / suc m) + x % suc m ≡ x = div-add-mod x (suc m) in
    let ceil : div_ceil x (suc m) ≡ suc (x / suc m) = omega arith in
    let more : suc m * suc (x / suc m) ≡ suc m * (x / suc m) + suc m = mul-suc (suc m) (x / suc m) in
    minus_part (pos x) (negsuc m *ℤ neg_ℤ (pos (div_ceil x (suc m)))) (pos (x % suc m) +ℤ negsuc m) (rw (both_below, ceil, more) (omega (arith, ints)))
floored_below (negsuc x) (negsuc m) h e =
    let rest : x % suc m < suc m = mod-lt x (omega arith) in
    let left : suc m - 1 - x % suc m ≢ 0 = λ z. e (ap pos z) in
    let next : suc x / suc m ≡ x / suc m = next_quotient x m (omega arith) in
    let parts : suc m * (x / suc m) + x % suc m ≡ x = div-add-mod x (suc m) in
    minus_part (negsuc x) (neg_ℤ (pos (suc m * (suc x / suc m)))) (pos (suc m - 1 - x % suc m) +ℤ negsuc m) (rw next (omega (arith, ints)))

-- a word that is not 0 and not above 0 is below 0
pub signed_negative : (w y : ℕ) → 0 < y → int_lt (pos 0) (signed w y) ≡ false → signed w y <ℤ pos 0
unfolding signed
signed_negative w y h =
    elim (nat_lt y (2 ^ (w - 1))) as (λ b. int_lt (pos 0) (cond b (pos y) (negsuc (2 ^ w - suc y))) ≡ false → cond b (pos y) (negsuc (2 ^ w - suc y)) <ℤ pos 0) [
      | true ↦ λ e. absurd (omega (arith, ltb-false 0 y e))
      | false ↦ λ e. record { lt = tt }
    ]

-- the rest that rounds down for a divisor below 0 fits, as the divisor does
pub below_fits : (w : Width) (a d : ℤ) → FitsSigned w d → d <ℤ pos 0 → FitsSigned w (int_rem_euclid a d +ℤ d)
below_fits w a (pos n) f h = absurd (omega (arith, ints))
below_fits w (pos x) (negsuc m) f h =
    let rest : x % suc m < suc m = mod-lt x (zero-lt-suc m) in
    let e : pos (x % suc m) +ℤ negsuc m ≡ negsuc (m - x % suc m) = omega (arith, ints) in
    subst (FitsSigned w) (sym e) (record { sfits = omega (arith, f.sfits) })
below_fits w (negsuc x) (negsuc m) f h =
    let rest : x % suc m < suc m = mod-lt x (zero-lt-suc m) in
    let e : pos (suc m - 1 - x % suc m) +ℤ negsuc m ≡ negsuc (m - (suc m - 1 - x % suc m)) = omega (arith, ints) in
    subst (FitsSigned w) (sym e) (record { sfits = omega (arith, f.sfits) })
