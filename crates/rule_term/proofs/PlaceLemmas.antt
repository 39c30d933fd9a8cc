-- A power of two is known by the place of its lowest 1, and so is the word of a negated power: each tells which place alone has to be tried.
use Rattle.std.proofs.Common.{◌≡◌, refl, ℕ, zero, suc, ◌+◌, ◌-◌, ◌<◌, ◌≤◌, ◌^◌, ◌*◌, ◌%◌, Bool, true, false, nat_eq, sym, ◌∙◌, ap, subst, ⊎_elim, arith}
use Rattle.std.proofs.lemmas.Bool.{false≢true, or_cases, or_left, or_right, cases_order, eqb-true, eq-eqb}
use Rattle.std.proofs.lemmas.Nat.Bits.{bit_at-trailing_zeros, bit_at-pow_same, bit_at-pow_other, bit_at_mask_inside, bit_at_mask_below}
use Rattle.std.proofs.lemmas.Nat.{pow_pos}
use Rattle.std.proofs.Math.Pow.{pow-lt}
use Rattle.std.proofs.Math.Nat.{mod-eq_of_lt, one-mul}
use Rattle.std.specs.Int.{w64, bit_at, trailing_zeros}
use Rattle.nir_ops.specs.declared.width.Width.{Width}
use Rattle.nir_ops.specs.declared.width.Width.TheVariants.{W1, W8, W16, W32, W64}
use Rattle.nir_ops.specs.Width.{width_bits}
use Rattle.std.specs.List.{list_any, range_with_len}

-- a test passes somewhere in a range, where it passes at a number of it, and nowhere else
any_found : (test : ℕ → Bool) (from count : ℕ) → list_any test (range_with_len from count) ≡ true → (k : ℕ) × (from ≤ k) × (k < from + count) × (test k ≡ true)
any_found test from zero h = absurd (false≢true h)
any_found test from (suc count) h =
    ⊎_elim
    (λ here. (from, omega arith, omega arith, here))
    (λ later. let found = any_found test (from + 1) count later in (found.0, omega (arith, found.1), omega (arith, found.2), found.3))
    (or_cases (test from) (list_any test (range_with_len (from + 1) count)) h)

any_from : (test : ℕ → Bool) (from count k : ℕ) → from ≤ k → k < from + count → test k ≡ true → list_any test (range_with_len from count) ≡ true
any_from test from zero k low high h = absurd (omega arith)
any_from test from (suc count) k low high h =
    ⊎_elim
    (λ here. or_left (test from) (list_any test (range_with_len (from + 1) count)) (subst (λ (n : ℕ). test n ≡ true) (sym here) h))
    (λ other. or_right (test from) (list_any test (range_with_len (from + 1) count))
    (any_from test (from + 1) count k (⊎_elim (λ below. omega (arith, below)) (λ above. absurd (omega (arith, above, low))) other) (omega arith) h))
    (cases_order from k)

same_tests : (a b : Bool) → (a ≡ true → b ≡ true) → (b ≡ true → a ≡ true) → a ≡ b
same_tests true b f g = sym (f refl)
same_tests false true f g = g refl
same_tests false false f g = refl

-- where one place alone can pass, it decides
pub only_place : (of : ℕ → ℕ) (x count place : ℕ) → ((k : ℕ) → k < count → x ≡ of k → k ≡ place) → place < count → nat_eq x (of place) ≡ list_any (λ k. nat_eq x (of k)) (range_with_len 0 count)
only_place of x count place only within =
    same_tests (nat_eq x (of place)) (list_any (λ k. nat_eq x (of k)) (range_with_len 0 count))
    (λ here. any_from (λ k. nat_eq x (of k)) 0 count place (omega arith) (omega arith) here)
    (λ some.
    let found = any_found (λ k. nat_eq x (of k)) 0 count some in
    let at = eqb-true x (of found.0) found.3 in
    eq-eqb x (of place) (at ∙ ap of (only found.0 (omega (arith, found.2)) at)))

pub no_place : (of : ℕ → ℕ) (x count place : ℕ) → ((k : ℕ) → k < count → x ≡ of k → k ≡ place) → count ≤ place → false ≡ list_any (λ k. nat_eq x (of k)) (range_with_len 0 count)
no_place of x count place only past =
    same_tests false (list_any (λ k. nat_eq x (of k)) (range_with_len 0 count))
    (λ e. absurd (false≢true e))
    (λ some.
    let found = any_found (λ k. nat_eq x (of k)) 0 count some in
    let at = only found.0 (omega (arith, found.2)) (eqb-true x (of found.0) found.3) in
    absurd (omega (arith, found.2, at)))

-- the place of the lowest 1
lowest : (x k : ℕ) → x < 2 ^ 64 → 0 < x → bit_at x k ≡ 1 → ((i : ℕ) → i < k → bit_at x i ≡ 0) → k ≡ trailing_zeros w64 x
lowest x k small some here below =
    let known = bit_at-trailing_zeros w64 x some small in
    ⊎_elim
    (λ same. same)
    (λ other. ⊎_elim
    (λ less. absurd (omega (arith, here, known.2 k less)))
    (λ more. absurd (omega (arith, below (trailing_zeros w64 x) more, known.1)))
    other)
    (cases_order k (trailing_zeros w64 x))

pub place_of_power : (x k : ℕ) → x < 2 ^ 64 → x ≡ 2 ^ k → k ≡ trailing_zeros w64 x
place_of_power x k small at =
    let some = pow_pos k in
    lowest x k small (omega arith) (ap (λ n. bit_at n k) at ∙ bit_at-pow_same k)
    (λ i less. ap (λ n. bit_at n i) at ∙ bit_at-pow_other k i (λ same. omega (arith, same, less)))

pub place_of_negated : (width x k : ℕ) → x < 2 ^ 64 → k < width → x ≡ 2 ^ width - 2 ^ k → k ≡ trailing_zeros w64 x
place_of_negated width x k small within at =
    let more = pow-lt {i = k} {j = width} within in
    lowest x k small (omega arith) (ap (λ n. bit_at n k) at ∙ bit_at_mask_inside k width k (omega arith) within)
    (λ i less. ap (λ n. bit_at n i) at ∙ bit_at_mask_below k width i less)

-- a bit at a place below 64 is not shifted out
pub shifted : (place : ℕ) → place < 64 → 1 * 2 ^ place % 2 ^ 64 ≡ 2 ^ place
shifted place within =
    let small = pow-lt {i = place} {j = 64} within in
    rw one-mul (mod-eq_of_lt small)

-- the greatest word less the bits below a place
pub negated_at : (width place : ℕ) → place < width → 2 ^ width - 1 - (2 ^ place - 1) ≡ 2 ^ width - 2 ^ place
negated_at width place within =
    let more = pow-lt {i = place} {j = width} within in
    let some = pow_pos place in
    omega arith

pub width_at_most : (width : Width) → width_bits width ≤ 64
width_at_most W1 = omega arith
width_at_most W8 = omega arith
width_at_most W16 = omega arith
width_at_most W32 = omega arith
width_at_most W64 = omega arith
