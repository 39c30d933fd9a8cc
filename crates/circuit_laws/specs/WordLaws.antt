-- Laws of words of literals: what a word stands for where it is cut, joined, negated or made of constants, and below which variable it stands.
use Rattle.std.proofs.Common.{◌≡◌, ℕ, zero, suc, ◌+◌, ◌*◌, ◌/◌, ◌%◌, ◌^◌, ◌<◌, ◌≤◌, List, [], ◌∷◌, ◌++◌, length, replicate, take, drop, refl, sym, ◌∙◌, ap, subst, arith, Bool, true, false, cond, not, ⊎_elim, pow-suc, shr-shr, lit<}
use Rattle.std.specs.Prelude.{◌==◌}
use Rattle.std.proofs.lemmas.Bool.{ne_eqb, eq-eqb, cases_eq}
use Rattle.std.proofs.lemmas.Nat.{mod-pow-add}
use Rattle.std.proofs.lemmas.List.{length-map}
use Rattle.std.proofs.Math.Nat.{mod-one, zero-mod, div-one, zero-div}
use Rattle.circuit_laws.specs.Literals.{Lit, Is, IsNot, negated, lit, bit, word, variables, constant, yes, no}
use Rattle.circuit_laws.specs.Gates.{IsBelow, AreBelow}
use Rattle.circuit_laws.specs.Blocks.{flipped}

pub lit_negated : (α : ℕ → Bool) (l : Lit) → lit α (negated l) ≡ not (lit α l)
lit_negated α (Is v) = refl
lit_negated α (IsNot v) = not_not (α v)
  where
    not_not : (b : Bool) → b ≡ not (not b)
    not_not true = refl
    not_not false = refl

pub bit_small : (b : Bool) → bit b < 2
bit_small true = lit< tt
bit_small false = lit< tt

-- a word is below the power of its length
pub word_small : (α : ℕ → Bool) (ls : List Lit) → word α ls < 2 ^ length ls
word_small α [] = lit< tt
word_small α (l ∷ ls) = omega (arith, pow-suc 2 (length ls), word_small α ls, bit_small (lit α l))

-- ---- parts of words

pub word_append : (α : ℕ → Bool) (a b : List Lit) → word α (a ++ b) ≡ word α a + 2 ^ length a * word α b
word_append α [] b = omega arith
word_append α (l ∷ ls) b =
    let double : 2 ^ suc (length ls) * word α b ≡ 2 ^ length ls * 2 * word α b = ap (λ m. m * word α b) (pow-suc 2 (length ls)) in
    omega (arith, double, word_append α ls b)

pub word_take : (α : ℕ → Bool) (n : ℕ) (ls : List Lit) → word α (take n ls) ≡ word α ls % 2 ^ n
word_take α zero ls = sym (mod-one (word α ls))
word_take α (suc n) [] = sym (zero-mod (2 ^ suc n))
word_take α (suc n) (l ∷ ls) =
    let b : bit (lit α l) < 2 = bit_small (lit α l) in
    let all : ℕ = bit (lit α l) + 2 * word α ls in
    let half : all / 2 ≡ word α ls = omega (arith, b) in
    let odd : all % 2 ≡ bit (lit α l) = omega (arith, b) in
    let parts : all % 2 ^ (n + 1) ≡ (all / 2 % 2 ^ n) * 2 + all % 2 = mod-pow-add all n 1 in
    let place : n + 1 ≡ suc n = omega arith in
    sym (ap (λ m. all % 2 ^ m) (sym place) ∙ parts ∙ rw (half, odd, sym (word_take α n ls)) (omega arith))

pub word_drop : (α : ℕ → Bool) (d : ℕ) (ls : List Lit) → word α (drop d ls) ≡ word α ls / 2 ^ d
word_drop α zero ls = sym (div-one (word α ls))
word_drop α (suc d) [] = sym (zero-div (2 ^ suc d))
word_drop α (suc d) (l ∷ ls) =
    let b : bit (lit α l) < 2 = bit_small (lit α l) in
    let half : (bit (lit α l) + 2 * word α ls) / 2 ≡ word α ls = omega (arith, b) in
    let place : 1 + d ≡ suc d = omega arith in
    word_drop α d ls ∙ ap (λ m. m / 2 ^ d) (sym half) ∙ shr-shr (bit (lit α l) + 2 * word α ls) 1 d ∙ ap (λ m. (bit (lit α l) + 2 * word α ls) / 2 ^ m) place

bit_not : (b : Bool) → bit (not b) + bit b ≡ 1
bit_not true = refl
bit_not false = refl

-- a word negated bit by bit
pub word_flipped : (α : ℕ → Bool) (ls : List Lit) → word α (flipped ls) + word α ls + 1 ≡ 2 ^ length ls
word_flipped α [] = refl
word_flipped α (l ∷ ls) = rw (lit_negated α l) (omega (arith, pow-suc 2 (length ls), word_flipped α ls, bit_not (lit α l)))

pub flipped_length : (ls : List Lit) → length (flipped ls) ≡ length ls
flipped_length ls = length-map ls negated

-- ---- constants

pub word_none : (α : ℕ → Bool) (n : ℕ) → α 0 ≡ true → word α (replicate n no) ≡ 0
word_none α zero t = refl
word_none α (suc n) t = rw (t, word_none α n t) refl

pub word_ones : (α : ℕ → Bool) (n : ℕ) → α 0 ≡ true → word α (replicate n yes) + 1 ≡ 2 ^ n
word_ones α zero t = refl
word_ones α (suc n) t = let behind = word_ones α n t in rw t (omega (arith, behind, pow-suc 2 n))

bit_constant : (α : ℕ → Bool) (v : ℕ) → α 0 ≡ true → bit (lit α (cond (v % 2 == 1) yes no)) ≡ v % 2
bit_constant α v t =
    ⊎_elim (λ e. rw (eq-eqb (v % 2) 1 e, t) (sym e))
    (λ e. rw (ne_eqb (v % 2) 1 e, t) (let small : v % 2 < 2 = omega arith in zero_of (v % 2) e small))
    (cases_eq (v % 2) 1)
  where
    zero_of : (r : ℕ) → (r ≡ 1 → ⊥) → r < 2 → 0 ≡ r
    zero_of zero e h = refl
    zero_of (suc zero) e h = absurd (e refl)
    zero_of (suc (suc r)) e h = absurd (omega (arith, h))

pub constant_is : (α : ℕ → Bool) (n v : ℕ) → α 0 ≡ true → word α (constant n v) ≡ v % 2 ^ n
constant_is α zero v t = sym (mod-one v)
constant_is α (suc n) v t =
    let place : n + 1 ≡ suc n = omega arith in
    let parts : v % 2 ^ (n + 1) ≡ (v / 2 % 2 ^ n) * 2 + v % 2 = mod-pow-add v n 1 in
    sym (ap (λ m. v % 2 ^ m) (sym place) ∙ parts ∙ rw (bit_constant α v t, constant_is α n (v / 2) t) (omega arith))

pub constant_length : (n v : ℕ) → length (constant n v) ≡ n
constant_length zero v = refl
constant_length (suc n) v = ap suc (constant_length n (v / 2))

pub variables_length : (n k : ℕ) → length (variables n k) ≡ k
variables_length n zero = refl
variables_length n (suc k) = ap suc (variables_length (suc n) k)

-- ---- below a variable

pub below_later : (n m : ℕ) (ls : List Lit) → n ≤ m → AreBelow n ls → AreBelow m ls
below_later n m [] le h = tt
below_later n m (l ∷ ls) le h = (omega (arith, le, h.0), below_later n m ls le h.1)

pub below_append : (n : ℕ) (a b : List Lit) → AreBelow n a → AreBelow n b → AreBelow n (a ++ b)
below_append n [] b f g = g
below_append n (l ∷ ls) b f g = (f.0, below_append n ls b f.1 g)

pub below_take : (n k : ℕ) (ls : List Lit) → AreBelow n ls → AreBelow n (take k ls)
below_take n zero ls f = tt
below_take n (suc k) [] f = tt
below_take n (suc k) (l ∷ ls) f = (f.0, below_take n k ls f.1)

pub below_drop : (n k : ℕ) (ls : List Lit) → AreBelow n ls → AreBelow n (drop k ls)
below_drop n zero ls f = f
below_drop n (suc k) [] f = tt
below_drop n (suc k) (l ∷ ls) f = below_drop n k ls f.1

pub below_filled : (n k : ℕ) (l : Lit) → IsBelow n l → AreBelow n (replicate k l)
below_filled n zero l h = tt
below_filled n (suc k) l h = (h, below_filled n k l h)

pub negated_below : (n : ℕ) (l : Lit) → IsBelow n l → IsBelow n (negated l)
negated_below n (Is v) h = h
negated_below n (IsNot v) h = h

pub below_flipped : (n : ℕ) (ls : List Lit) → AreBelow n ls → AreBelow n (flipped ls)
below_flipped n [] h = tt
below_flipped n (l ∷ ls) h = (negated_below n l h.0, below_flipped n ls h.1)

pub variables_below : (n k : ℕ) → AreBelow (n + k) (variables n k)
variables_below n zero = tt
variables_below n (suc k) = (omega arith, subst (λ m. AreBelow m (variables (suc n) k)) (omega arith) (variables_below (suc n) k))

choice_below : (n : ℕ) (b : Bool) → 0 < n → IsBelow n (cond b yes no)
choice_below n true h = h
choice_below n false h = h

pub below_constant : (n k v : ℕ) → 0 < n → AreBelow n (constant k v)
below_constant n zero v h = tt
below_constant n (suc k) v h = (choice_below n (v % 2 == 1) h, below_constant n k (v / 2) h)
