-- Laws of the tests by which a grammar is chosen, and of how many terminals a part takes at least.
use Rattle.std.specs.Prelude.{◌≡◌, refl, ℕ, ◌+◌, ◌≤◌, Bool, true, false, cond, not, ◌&&◌, ◌||◌}
use Rattle.std.proofs.Common.{◌⊎◌, inl, inr, arith}
use Rattle.std.proofs.lemmas.Bool.{both_ways}

pub refuted : (a : Bool) → (a ≡ true → ⊥) → a ≡ false
refuted true h = absurd (h refl)
refuted false h = refl

pub implied : (a b : Bool) → (not a || b) ≡ true → a ≡ true → b ≡ true
implied true b e h = e
implied false b e h = absurd cc

pub one_only : (m n : Bool) → not (m && n) ≡ true → n ≡ true → m ≡ false
one_only true true e h = absurd cc
one_only true false e h = absurd cc
one_only false n e h = refl

pub cond_true : {A : Type 0} (b : Bool) (u v w : A) → b ≡ true → u ≡ w → cond b u v ≡ w
cond_true true u v w e h = h
cond_true false u v w e h = absurd cc

pub cond_false : {A : Type 0} (b : Bool) (u v w : A) → b ≡ false → v ≡ w → cond b u v ≡ w
cond_false true u v w e h = absurd cc
cond_false false u v w e h = h

-- ---- the first of two grammars is read, or the second: a text of the first begins, the first takes none, a text of the second begins

pub first_taken : (a n b : Bool) → (a ≡ true) ⊎ ((n ≡ true) × (b ≡ false)) → (a || (n && not b)) ≡ true
first_taken true n b h = refl
first_taken false true false h = refl
first_taken false true true (inl h) = absurd cc
first_taken false true true (inr h) = absurd (both_ways true h.1 refl)
first_taken false false b (inl h) = absurd cc
first_taken false false b (inr h) = absurd (both_ways false refl h.0)

pub second_taken : (a n b : Bool) → a ≡ false → (n ≡ false) ⊎ (b ≡ true) → (a || (n && not b)) ≡ false
second_taken true n b e h = absurd cc
second_taken false false b e h = refl
second_taken false true true e h = refl
second_taken false true false e (inl h) = absurd cc
second_taken false true false e (inr h) = absurd cc

-- ---- a part that does not spell the empty text takes a terminal at least

abbrev pub least : Bool → ℕ
least true = 0
least false = 1

pub least_and : (a b : Bool) → least (a && b) ≤ least a + least b
least_and true true = omega arith
least_and true false = omega arith
least_and false true = omega arith
least_and false false = omega arith

pub least_left : (a b : Bool) → least (a || b) ≤ least a
least_left true b = omega arith
least_left false true = omega arith
least_left false false = omega arith

pub least_right : (a b : Bool) → least (a || b) ≤ least b
least_right true true = omega arith
least_right true false = omega arith
least_right false b = omega arith

pub least_implied : (a b : Bool) → (not a || b) ≡ true → least b ≤ least a
least_implied true true e = omega arith
least_implied true false e = absurd cc
least_implied false true e = omega arith
least_implied false false e = omega arith
