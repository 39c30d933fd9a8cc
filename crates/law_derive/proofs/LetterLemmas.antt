-- The letter of a name of one byte, and that no longer name is a letter's.
use Rattle.std.proofs.Common.{◌≡◌, ℕ, List, [], ◌∷◌, None, Some, refl, ⊎_elim}
use Rattle.std.specs.Prelude.{true, false, nat_eq, if◌then◌else◌}
use Rattle.std.proofs.Math.Bool.{and-false}
use Rattle.std.proofs.lemmas.Bool.{cases_Bool}
use Rattle.law_derive.specs.Derivations.{letter_named}
use Rattle.law_derive.specs.Views.{letter_number}

pub named_byte : (byte : ℕ) → letter_named (byte ∷ []) ≡ (if nat_eq (letter_number byte) 5 then None else Some (letter_number byte))
named_byte byte =
    ⊎_elim (λ (x : nat_eq byte 120 ≡ true). rw x refl)
    (λ (a : nat_eq byte 120 ≡ false). ⊎_elim (λ (y : nat_eq byte 121 ≡ true). rw (a, y) refl)
    (λ (b : nat_eq byte 121 ≡ false). ⊎_elim (λ (z : nat_eq byte 122 ≡ true). rw (a, b, z) refl)
    (λ (c : nat_eq byte 122 ≡ false). ⊎_elim (λ (t : nat_eq byte 98 ≡ true). rw (a, b, c, t) refl)
    (λ (d : nat_eq byte 98 ≡ false). ⊎_elim (λ (w : nat_eq byte 99 ≡ true). rw (a, b, c, d, w) refl) (λ (e : nat_eq byte 99 ≡ false). rw (a, b, c, d, e) refl)
    (cases_Bool (nat_eq byte 99)))
    (cases_Bool (nat_eq byte 98)))
    (cases_Bool (nat_eq byte 122)))
    (cases_Bool (nat_eq byte 121)))
    (cases_Bool (nat_eq byte 120))

pub named_none : letter_named [] ≡ None
named_none = refl

pub named_more : (byte other : ℕ) (rest : List ℕ) → letter_named (byte ∷ other ∷ rest) ≡ None
named_more byte other rest = simp (and-false) refl

pub ruleset named_steps = (named_byte, named_none, named_more)
