-- Laws of the top literal of a word, and of words cut or made longer.
use Rattle.std.proofs.Common.{◌≡◌, ℕ, zero, suc, ◌+◌, ◌-◌, ◌*◌, ◌%◌, ◌^◌, ◌<◌, ◌≤◌, List, [], ◌∷◌, length, replicate, take, refl, sym, ◌∙◌, ap, arith, Bool, true, false, not, nat_lt, ⊎_elim, pow-suc}
use Rattle.std.proofs.lemmas.Bool.{cases_Bool, not-true, not-false}
use Rattle.std.proofs.lemmas.List.{length-replicate, length-append, length-take, map-append, take-map}
use Rattle.op_eval.specs.Word.{residue, signed}
use Rattle.circuit_laws.specs.Literals.{Lit, negated, no, lit, bit, word}
use Rattle.circuit_laws.specs.Gates.{IsBelow, AreBelow}
use Rattle.circuit_laws.specs.Blocks.{flipped, top, resized}
use Rattle.circuit_laws.specs.WordLaws.{lit_negated, word_append, word_take, word_flipped, flipped_length, below_append, below_take, below_filled}

-- ---- the top literal

-- a number below half of the power, from the bits above the lowest
half_less : (b : Bool) (t m p : ℕ) → p ≡ m * 2 → nat_lt (bit b + 2 * t) p ≡ nat_lt t m
half_less true t m p e = grind (arith, e)
half_less false t m p e = grind (arith, e)

one_top : (b : Bool) → b ≡ not (nat_lt (bit b + 2 * 0) 1)
one_top true = refl
one_top false = refl

top_more : (α : ℕ → Bool) (l : Lit) (ls : List Lit) → lit α (top (l ∷ ls)) ≡ not (nat_lt (word α (l ∷ ls)) (2 ^ length ls))
top_more α l [] = one_top (lit α l)
top_more α l (m ∷ ls) =
    top_more α m ls ∙ ap not (sym (half_less (lit α l) (word α (m ∷ ls)) (2 ^ length ls) (2 ^ suc (length ls)) (pow-suc 2 (length ls))))

-- the top literal tells whether the word is at least half of the power of its length
pub top_is : (α : ℕ → Bool) (ls : List Lit) → 1 ≤ length ls → lit α (top ls) ≡ not (nat_lt (word α ls) (2 ^ (length ls - 1)))
top_is α [] h = absurd (omega (arith, h))
top_is α (l ∷ ls) h =
    let before : length ls ≡ suc (length ls) - 1 = omega arith in
    top_more α l ls ∙ ap (λ n. not (nat_lt (word α (l ∷ ls)) (2 ^ n))) before

pub top_below : (n : ℕ) (ls : List Lit) → 0 < n → AreBelow n ls → IsBelow n (top ls)
top_below n [] p h = p
top_below n (l ∷ []) p h = h.0
top_below n (l ∷ m ∷ ls) p h = top_below n (m ∷ ls) p h.1

-- ---- one literal many times

pub word_filled : (α : ℕ → Bool) (k : ℕ) (l : Lit) → lit α l ≡ false → word α (replicate k l) ≡ 0
word_filled α zero l h = refl
word_filled α (suc k) l h = rw (h, word_filled α k l h) refl

pub flipped_filled : (k : ℕ) (l : Lit) → flipped (replicate k l) ≡ replicate k (negated l)
flipped_filled zero l = refl
flipped_filled (suc k) l = ap (λ ls. negated l ∷ ls) (flipped_filled k l)

-- ---- other sizes

pub resized_length : (fill : Lit) (d : ℕ) (ls : List Lit) → length (resized fill d ls) ≡ d
resized_length fill d ls = omega (arith, length-append (take d ls) (replicate (d - length ls) fill), length-take d ls, length-replicate (d - length ls) fill)

pub resized_below : (n : ℕ) (fill : Lit) (d : ℕ) (ls : List Lit) → IsBelow n fill → AreBelow n ls → AreBelow n (resized fill d ls)
resized_below n fill d ls f h = below_append n (take d ls) (replicate (d - length ls) fill) (below_take n d ls h) (below_filled n (d - length ls) fill f)

-- cut, or with a literal above that is false
pub resized_low : (α : ℕ → Bool) (fill : Lit) (d : ℕ) (ls : List Lit) → lit α fill ≡ false → word α (resized fill d ls) ≡ word α ls % 2 ^ d
resized_low α fill d ls f =
    word_append α (take d ls) (replicate (d - length ls) fill) ∙ rw (word_filled α (d - length ls) fill f) (omega arith) ∙ word_take α d ls

pub resized_is : (α : ℕ → Bool) (d : ℕ) (ls : List Lit) → α 0 ≡ true → word α (resized no d ls) ≡ word α ls % 2 ^ d
resized_is α d ls t = resized_low α no d ls (ap not t)

flipped_resized : (fill : Lit) (d : ℕ) (ls : List Lit) → flipped (resized fill d ls) ≡ resized (negated fill) d (flipped ls)
flipped_resized fill d ls =
    map-append negated (take d ls) (replicate (d - length ls) fill) ∙ rw (take-map negated d ls, flipped_filled (d - length ls) fill, flipped_length ls) refl

-- a word from the word negated bit by bit
pub by_flipped : (α : ℕ → Bool) (ls : List Lit) (r : ℕ) → word α (flipped ls) ≡ r → word α ls ≡ 2 ^ length ls - 1 - r
by_flipped α ls r e = omega (arith, e, word_flipped α ls)

signed_high : (α : ℕ → Bool) (d : ℕ) (ls : List Lit) → 1 ≤ length ls → lit α (top ls) ≡ true →
    word α (resized (top ls) d ls) ≡ residue d (signed (length ls) (word α ls))
unfolding residue signed
signed_high α d ls h t =
    let high : nat_lt (word α ls) (2 ^ (length ls - 1)) ≡ false = not-true (nat_lt (word α ls) (2 ^ (length ls - 1))) (sym (top_is α ls h) ∙ t) in
    let others : word α (flipped ls) ≡ 2 ^ length ls - suc (word α ls) = omega (arith, word_flipped α ls) in
    let low : word α (flipped (resized (top ls) d ls)) ≡ (2 ^ length ls - suc (word α ls)) % 2 ^ d =
    ap (word α) (flipped_resized (top ls) d ls)
    ∙ resized_low α (negated (top ls)) d (flipped ls) (lit_negated α (top ls) ∙ ap not t) ∙ ap (λ m. m % 2 ^ d) others in
    by_flipped α (resized (top ls) d ls) ((2 ^ length ls - suc (word α ls)) % 2 ^ d) low ∙ rw (high, resized_length (top ls) d ls) refl

signed_low : (α : ℕ → Bool) (d : ℕ) (ls : List Lit) → 1 ≤ length ls → lit α (top ls) ≡ false →
    word α (resized (top ls) d ls) ≡ residue d (signed (length ls) (word α ls))
unfolding residue signed
signed_low α d ls h f =
    let low : nat_lt (word α ls) (2 ^ (length ls - 1)) ≡ true = not-false (nat_lt (word α ls) (2 ^ (length ls - 1))) (sym (top_is α ls h) ∙ f) in
    resized_low α (top ls) d ls f ∙ rw low refl

-- a word read as signed, at another size
pub resized_signed : (α : ℕ → Bool) (d : ℕ) (ls : List Lit) → 1 ≤ length ls → word α (resized (top ls) d ls) ≡ residue d (signed (length ls) (word α ls))
resized_signed α d ls h = ⊎_elim (signed_high α d ls h) (signed_low α d ls h) (cases_Bool (lit α (top ls)))
