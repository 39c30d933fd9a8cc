-- Halves of signed sums, by words that are raised by half of the bit size's power.
use Rattle.std.proofs.Common.{◌≡◌, ℕ, suc, ◌+◌, ◌-◌, ◌/◌, ◌%◌, ◌^◌, ◌<◌, ◌≤◌, pos, negsuc, refl, sym, ◌∙◌, ap, arith, mod-eq_of_lt, mod-lt, cond, true, false, Bool, nat_lt}
use Rattle.std.proofs.lemmas.Bool.{ltb-true, ltb-false}
use Rattle.std.proofs.Math.Nat.{add-mod_right}
use Rattle.std.specs.Prelude.{ℤ, ◌+ℤ◌}
use Rattle.std.proofs.lemmas.Int.{ints}
use Rattle.std.proofs.lemmas.Nat.{pow_pos}
use Rattle.op_eval.specs.Word.{residue, signed, floor_div}
use Rattle.op_eval.proofs.WordLemmas.{twice_half}

raised_by_half : (x h p : ℕ) → h + h ≡ p → x < p → cond (nat_lt x h) (pos x) (negsuc (p - suc x)) +ℤ pos h ≡ pos ((x + h) % p)
raised_by_half x h p e f =
    let chosen : (b : Bool) → nat_lt x h ≡ b → cond b (pos x) (negsuc (p - suc x)) +ℤ pos h ≡ pos ((x + h) % p) =
    λ b. elim b as (λ v. nat_lt x h ≡ v → cond v (pos x) (negsuc (p - suc x)) +ℤ pos h ≡ pos ((x + h) % p)) [
      | true ↦ λ t. let below : x < h = ltb-true x h t in ap pos (sym (mod-eq_of_lt (omega arith)))
      | false ↦ λ t.
          let above : h ≤ x = ltb-false x h t in
          let whole : x + h ≡ (x - h) + p = omega arith in
          let word : (x + h) % p ≡ x - h = ap (λ n. n % p) whole ∙ add-mod_right (x - h) p ∙ mod-eq_of_lt (omega arith) in
          rw word (omega (arith, ints))
    ] in
    chosen (nat_lt x h) refl

-- the signed reading, raised by half of the power, is the word that the machine raises
pub raised_word : (w x : ℕ) → 0 < w → x < 2 ^ w → signed w x +ℤ pos (2 ^ (w - 1)) ≡ pos ((x + 2 ^ (w - 1)) % 2 ^ w)
unfolding signed
raised_word w x positive f = raised_by_half x (2 ^ (w - 1)) (2 ^ w) (twice_half w positive) f

half_raised : (z : ℤ) (h m : ℕ) → z +ℤ pos (h + h) ≡ pos m → floor_div z (pos 2) +ℤ pos h ≡ pos (m / 2)
unfolding floor_div
half_raised (pos n) h m e = omega (arith, ints)
half_raised (negsuc n) h m e = omega (arith, ints)

lowered : (w : ℕ) (z : ℤ) (h m : ℕ) → h + h ≡ 2 ^ w → z +ℤ pos h ≡ pos m → (m + h) % 2 ^ w ≡ residue w z
unfolding residue
lowered w (pos n) h m e r =
    let whole : m + h ≡ n + 2 ^ w = omega (arith, ints) in
    ap (λ k. k % 2 ^ w) whole ∙ add-mod_right n (2 ^ w)
lowered w (negsuc n) h m e r =
    let whole : m + suc n ≡ h = omega (arith, ints) in
    let same : n % 2 ^ w ≡ n = mod-eq_of_lt (omega arith) in
    let word : (m + h) % 2 ^ w ≡ m + h = mod-eq_of_lt (omega arith) in
    rw (same, word) (omega arith)

-- the half of a signed sum, as the machine makes it of the raised words
pub biased_half : (w x y : ℕ) → 0 < w → x < 2 ^ w → y < 2 ^ w →
    (((x + 2 ^ (w - 1)) % 2 ^ w + (y + 2 ^ (w - 1)) % 2 ^ w) / 2 + 2 ^ (w - 1)) % 2 ^ w ≡ residue w (floor_div (signed w x +ℤ signed w y) (pos 2))
biased_half w x y positive f g =
    let h : ℕ = 2 ^ (w - 1) in
    let sum : (signed w x +ℤ signed w y) +ℤ pos (h + h) ≡ pos ((x + h) % 2 ^ w + (y + h) % 2 ^ w) = omega (arith, ints, raised_word w x positive f, raised_word w y positive g) in
    lowered w (floor_div (signed w x +ℤ signed w y) (pos 2)) h (((x + h) % 2 ^ w + (y + h) % 2 ^ w) / 2) (twice_half w positive) (half_raised (signed w x +ℤ signed w y) h ((x + h) % 2 ^ w + (y + h) % 2 ^ w) sum)

-- the same, rounded up: the machine takes the half of the negated words
rounded_up : (a b p : ℕ) → a < p → b < p → p - 1 - ((p - 1 - a) + (p - 1 - b)) / 2 ≡ (a + b + 1) / 2
rounded_up a b p f g = omega arith

pub biased_round_half : (w x y : ℕ) → 0 < w → x < 2 ^ w → y < 2 ^ w →
    ((2 ^ w - 1 - ((2 ^ w - 1 - (x + 2 ^ (w - 1)) % 2 ^ w) + (2 ^ w - 1 - (y + 2 ^ (w - 1)) % 2 ^ w)) / 2) + 2 ^ (w - 1)) % 2 ^ w
    ≡ residue w (floor_div (signed w x +ℤ signed w y +ℤ pos 1) (pos 2))
biased_round_half w x y positive f g =
    let h : ℕ = 2 ^ (w - 1) in
    let a : ℕ = (x + h) % 2 ^ w in
    let b : ℕ = (y + h) % 2 ^ w in
    let p : 0 < 2 ^ w = pow_pos w in
    let up : 2 ^ w - 1 - ((2 ^ w - 1 - a) + (2 ^ w - 1 - b)) / 2 ≡ (a + b + 1) / 2 = rounded_up a b (2 ^ w) (mod-lt (x + h) p) (mod-lt (y + h) p) in
    let sum : (signed w x +ℤ signed w y +ℤ pos 1) +ℤ pos (h + h) ≡ pos (a + b + 1) = omega (arith, ints, raised_word w x positive f, raised_word w y positive g) in
    ap (λ n. (n + h) % 2 ^ w) up ∙ lowered w (floor_div (signed w x +ℤ signed w y +ℤ pos 1) (pos 2)) h ((a + b + 1) / 2) (twice_half w positive) (half_raised (signed w x +ℤ signed w y +ℤ pos 1) h (a + b + 1) sum)

pub round_half : (w x y : ℕ) → x < 2 ^ w → y < 2 ^ w → 2 ^ w - 1 - ((2 ^ w - 1 - x) + (2 ^ w - 1 - y)) / 2 ≡ residue w (pos ((x + y + 1) / 2))
unfolding residue
round_half w x y f g =
    let fits : (x + y + 1) / 2 < 2 ^ w = omega arith in
    rounded_up x y (2 ^ w) f g ∙ sym (mod-eq_of_lt fits)
