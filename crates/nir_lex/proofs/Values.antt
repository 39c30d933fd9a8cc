-- What the loop over digits needs, and the two limits of a number.
use Rattle.std.proofs.Common.{◌≡◌, ℕ, zero, suc, ◌+◌, ◌*◌, ◌^◌, ◌<◌, ◌≤◌, true, false, cond, ltb, List, [], ◌∷◌, length, get_or, drop, Some, None, ℤ, pos, neg_ℤ, ◌-ℤ◌, to_z, of_z, refl, sym, ap, ◌∙◌, arith}
use Rattle.std.specs.Option.{option_map}
use Rattle.std.specs.Int.{w128}
use Rattle.std.specs.Char.{digit_value}
use Rattle.std.specs.Str.Parse.{digits_value, digits_value_after}
use Rattle.std.proofs.lemmas.Bool.Decides.{nat_tests}
use Rattle.std.proofs.lemmas.List.{at_drop_more}
use Rattle.std.proofs.lemmas.Int.{ints}
use Rattle.std.proofs.Math.Nat.{mul-le-mul_left}
use Rattle.nir_lex.specs.Numbers.{word_of, limited}

-- more digits make no value smaller
digits_value_after-ge : (radix value : ℕ) (digits : List ℕ) → 0 < radix → value ≤ digits_value_after radix value digits
digits_value_after-ge radix value [] positive = omega arith
digits_value_after-ge radix value (digit ∷ digits) positive =
    let wider : value * 1 ≤ value * radix = mul-le-mul_left value positive in
    omega (arith, digits_value_after-ge radix (value * radix + digit_value digit) digits positive)

word_of-none : (m n : ℕ) → m ≤ n → word_of m ≡ None → word_of n ≡ None
word_of-none m n le none = grind (arith, nat_tests)

-- a value that 64 bits do not hold stays so under the digits that follow
pub none_stays : (radix value i : ℕ) (digits : List ℕ) (total : ℕ) → 0 < radix → i < length digits → word_of (value * radix + digit_value (get_or digits i 0)) ≡ None → digits_value_after radix value (drop i digits) ≡ total → word_of total ≡ None
none_stays radix value i digits total positive within none rest =
    let more : digits_value_after radix value (drop i digits) ≡ digits_value_after radix (value * radix + digit_value (get_or digits i 0)) (drop (i + 1) digits) = at_drop_more (digits_value_after radix value) digits i 0 within in
    let ge = digits_value_after-ge radix (value * radix + digit_value (get_or digits i 0)) (drop (i + 1) digits) positive in
    word_of-none _ total (omega arith) none

pub limited-pos : (size : ℕ) → limited (pos size) ≡ option_map pos (word_of size)
unfolding limited
limited-pos size = elim (ltb size (2 ^ 64)) as (λ b. cond b (Some (pos size)) None ≡ option_map pos (cond b (Some size) None)) [ true ↦ refl | false ↦ refl ]

pub limited-negative : (size : ℕ) → size ≤ 2 ^ 63 → limited (neg_ℤ (pos size)) ≡ Some (neg_ℤ (pos size))
unfolding limited
limited-negative zero le = refl
limited-negative (suc size) le = grind (arith, nat_tests)

pub limited-too_low : (size : ℕ) → 2 ^ 63 < size → limited (neg_ℤ (pos size)) ≡ None
unfolding limited
limited-too_low zero lt = absurd (omega arith)
limited-too_low (suc size) lt = grind (arith, nat_tests)

word_of-some : (size total : ℕ) → Some size ≡ word_of total → (size ≡ total) × (total < 2 ^ 64)
word_of-some size total some = (grind (arith, nat_tests), grind (arith, nat_tests))

-- a size, widened
pub widened : (size total : ℕ) (found : ℤ) → found ≡ pos size → Some size ≡ word_of total → Some (to_z w128 (of_z w128 found)) ≡ limited (pos total)
widened size total found is_size some =
    let held = word_of-some size total some in
    let lt : total < 2 ^ 64 = held.1 in
    let same : to_z w128 (of_z w128 found) ≡ pos total = omega (arith, ints, is_size, held.0) in
    ap (λ (z : ℤ). Some z) same ∙ sym (limited-pos total ∙ ap (option_map pos) (sym some ∙ ap (λ (n : ℕ). Some n) held.0))

pub too_wide : (total : ℕ) → None ≡ word_of total → None ≡ limited (pos total)
too_wide total none = sym (limited-pos total ∙ ap (option_map pos) (sym none))

-- a size, widened and negated
pub negated : (size total : ℕ) (found : ℤ) → found ≡ pos size → size ≤ 2 ^ 63 → Some size ≡ word_of total → Some (to_z w128 (of_z w128 (pos 0 -ℤ to_z w128 (of_z w128 found)))) ≡ limited (neg_ℤ (pos total))
negated size total found is_size le some =
    let held = word_of-some size total some in
    let same : to_z w128 (of_z w128 (pos 0 -ℤ to_z w128 (of_z w128 found))) ≡ neg_ℤ (pos total) = omega (arith, ints, is_size, held.0) in
    ap (λ (z : ℤ). Some z) same ∙ sym (limited-negative total (omega (arith, held.0)))

pub too_low : (size total : ℕ) → 2 ^ 63 < size → Some size ≡ word_of total → None ≡ limited (neg_ℤ (pos total))
too_low size total lt some = sym (limited-too_low total (omega (arith, (word_of-some size total some).0)))

pub too_low_and_wide : (total : ℕ) → None ≡ word_of total → None ≡ limited (neg_ℤ (pos total))
too_low_and_wide total none =
    let wide : 2 ^ 64 ≤ total = grind (arith, nat_tests) in
    sym (limited-too_low total (omega arith))

-- digits behind a first one, whose value is the start
pub digits_value-cons : (radix start first : ℕ) (digits : List ℕ) → start ≡ digit_value first → digits_value_after radix start digits ≡ digits_value radix (first ∷ digits)
digits_value-cons radix start first digits is =
    let same : start ≡ 0 * radix + digit_value first = omega (arith, is) in
    ap (λ (n : ℕ). digits_value_after radix n digits) same
