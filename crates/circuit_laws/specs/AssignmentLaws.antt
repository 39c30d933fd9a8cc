-- An assignment for values of the variables of a rule: the words of the variables stand for the values.
use Rattle.std.proofs.Common.{◌≡◌, ℕ, zero, suc, ◌+◌, ◌*◌, ◌/◌, ◌%◌, ◌^◌, ◌<◌, List, [], ◌∷◌, length, refl, sym, ◌∙◌, ap, subst, arith, Bool, true, mod-eq_of_lt, ⊎_elim, get_or}
use Rattle.std.specs.Prelude.{◌==◌, sum, nat_lt}
use Rattle.std.proofs.lemmas.Bool.{ne_eqb, eq-eqb, cases_eq, and_parts, ltb-true}
use Rattle.std.proofs.lemmas.Nat.{mod-pow-add}
use Rattle.std.proofs.lemmas.List.Sums.{sum_by-cons}
use Rattle.std.proofs.Math.Nat.{mod-one}
use Rattle.circuit_laws.specs.Literals.{Lit, Is, IsNot, lit, bit, word, variables}
use Rattle.circuit_laws.specs.Gates.{IsBelow, AreBelow, given}
use Rattle.circuit_laws.specs.Opcodes.{word_at}
use Rattle.circuit_laws.specs.Computes.{AllBelow}
use Rattle.circuit_laws.specs.RuleClauses.{words_from}
use Rattle.circuit_laws.specs.VariableLaws.{are_within}
use Rattle.circuit_laws.specs.WordLaws.{variables_length, variables_below, below_later}
use Rattle.circuit_laws.specs.TermsLaws.{StandForAll}

-- the bits of a number for so many variables, from this one on
abbrev pub setting : (ℕ → Bool) → ℕ → ℕ → ℕ → ℕ → Bool
setting α n zero v = α
setting α n (suc k) v = setting (given α n (v % 2 == 1)) (suc n) k (v / 2)

abbrev pub setting_all : (ℕ → Bool) → ℕ → List ℕ → List ℕ → ℕ → Bool
setting_all α n [] values = α
setting_all α n (b ∷ bs) [] = α
setting_all α n (b ∷ bs) (v ∷ vs) = setting_all (setting α n b v) (n + b) bs vs

-- ---- what stands before keeps its value

lit_given : (α : ℕ → Bool) (n : ℕ) (b : Bool) (l : Lit) → IsBelow n l → lit (given α n b) l ≡ lit α l
lit_given α n b (Is v) h = rw (ne_eqb v n (λ e. omega (arith, e, h))) refl
lit_given α n b (IsNot v) h = rw (ne_eqb v n (λ e. omega (arith, e, h))) refl

setting_keeps : (α : ℕ → Bool) (n k v : ℕ) (l : Lit) → IsBelow n l → lit (setting α n k v) l ≡ lit α l
setting_keeps α n zero v l h = refl
setting_keeps α n (suc k) v l h = setting_keeps (given α n (v % 2 == 1)) (suc n) k (v / 2) l (omega (arith, h)) ∙ lit_given α n (v % 2 == 1) l h

pub all_keeps : (α : ℕ → Bool) (n : ℕ) (bits values : List ℕ) (l : Lit) → IsBelow n l → lit (setting_all α n bits values) l ≡ lit α l
all_keeps α n [] values l h = refl
all_keeps α n (b ∷ bs) [] l h = refl
all_keeps α n (b ∷ bs) (v ∷ vs) l h = all_keeps (setting α n b v) (n + b) bs vs l (omega (arith, h)) ∙ setting_keeps α n b v l h

pub word_kept : (α β : ℕ → Bool) (n : ℕ) (ls : List Lit) → ((l : Lit) → IsBelow n l → lit β l ≡ lit α l) → AreBelow n ls → word β ls ≡ word α ls
word_kept α β n [] k h = refl
word_kept α β n (l ∷ ls) k h = rw (k l h.0, word_kept α β n ls k h.1) refl

-- ---- the words

bit_given : (v : ℕ) → bit (v % 2 == 1) ≡ v % 2
bit_given v =
    ⊎_elim (λ e. rw (eq-eqb (v % 2) 1 e) (sym e))
    (λ e. rw (ne_eqb (v % 2) 1 e) (let small : v % 2 < 2 = omega arith in zero_of (v % 2) e small))
    (cases_eq (v % 2) 1)
  where
    zero_of : (r : ℕ) → (r ≡ 1 → ⊥) → r < 2 → 0 ≡ r
    zero_of zero e h = refl
    zero_of (suc zero) e h = absurd (e refl)
    zero_of (suc (suc r)) e h = absurd (omega (arith, h))

itself : (α : ℕ → Bool) (n : ℕ) (b : Bool) → given α n b n ≡ b
itself α n b = rw (eq-eqb n n refl) refl

setting_is : (α : ℕ → Bool) (n k v : ℕ) → word (setting α n k v) (variables n k) ≡ v % 2 ^ k
setting_is α n zero v = sym (mod-one v)
setting_is α n (suc k) v =
    let one : ℕ → Bool = given α n (v % 2 == 1) in
    let first : setting one (suc n) k (v / 2) n ≡ (v % 2 == 1) = setting_keeps one (suc n) k (v / 2) (Is n) (omega arith) ∙ itself α n (v % 2 == 1) in
    let place : k + 1 ≡ suc k = omega arith in
    let parts : v % 2 ^ (k + 1) ≡ (v / 2 % 2 ^ k) * 2 + v % 2 = mod-pow-add v k 1 in
    rw (first, bit_given v, setting_is one (suc n) k (v / 2)) (omega (arith, parts, ap (λ m. v % 2 ^ m) place))

pub words_below : (n : ℕ) (bits : List ℕ) → AllBelow (n + sum bits) (words_from n bits)
words_below n [] = tt
words_below n (b ∷ bs) =
    let whole : sum (b ∷ bs) ≡ b + sum bs = sum_by-cons (λ x. x) b bs in (
      below_later (n + b) (n + sum (b ∷ bs)) (variables n b) (omega (arith, whole)) (variables_below n b),
      subst (λ m. AllBelow m (words_from (n + b) bs)) (omega (arith, whole)) (words_below (n + b) bs),
    )

pub words_long : (n : ℕ) (bits : List ℕ) (var : ℕ) → length (word_at (words_from n bits) var) ≡ get_or bits var 0
words_long n [] var = refl
words_long n (b ∷ bs) zero = variables_length n b
words_long n (b ∷ bs) (suc var) = words_long (n + b) bs var

-- the words stand for the values
pub setting_stands : (α : ℕ → Bool) (n : ℕ) (bits values : List ℕ) → are_within bits values ≡ true → StandForAll (setting_all α n bits values) (words_from n bits) values
setting_stands α n [] [] within var = refl
setting_stands α n [] (v ∷ vs) within var = cc
setting_stands α n (b ∷ bs) [] within var = cc
setting_stands α n (b ∷ bs) (v ∷ vs) within zero =
    let own = and_parts (nat_lt v (2 ^ b)) (are_within bs vs) within in
    let one : ℕ → Bool = setting α n b v in
    word_kept one (setting_all one (n + b) bs vs) (n + b) (variables n b) (λ l h. all_keeps one (n + b) bs vs l h) (variables_below n b)
    ∙ setting_is α n b v ∙ mod-eq_of_lt (ltb-true v (2 ^ b) own.0)
setting_stands α n (b ∷ bs) (v ∷ vs) within (suc var) =
    let own = and_parts (nat_lt v (2 ^ b)) (are_within bs vs) within in
    setting_stands (setting α n b v) (n + b) bs vs own.1 var
