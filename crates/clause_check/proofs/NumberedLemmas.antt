-- The clause of a number: one of the first, or that of a step.
use Rattle.std.proofs.Common.{◌≡◌, ◌-◌, ℕ, zero, suc, List, [], ◌∷◌, ◌++◌, length, Some, None, refl, sym, ap, ◌∙◌, arith}
use Rattle.std.specs.Prelude.{slice_get}
use Rattle.clause_check.specs.declared.clause.LogStep.{LogStep}
use Rattle.clause_check.specs.Logs.{Clause, numbered}
use Rattle.clause_check.specs.Marked.{clauses_of}

get_front : {X : Type 0} (a b : List X) (k : ℕ) (x : X) → slice_get a k ≡ Some x → slice_get (a ++ b) k ≡ Some x
get_front [] b k x is = absurd cc
get_front (y ∷ a) b zero x is = is
get_front (y ∷ a) b (suc k) x is = get_front a b k x is

get_back : {X : Type 0} (a b : List X) (k : ℕ) → slice_get a k ≡ None → slice_get (a ++ b) k ≡ slice_get b (k - length a)
get_back [] b k is = ap (slice_get b) (omega arith)
get_back (y ∷ a) b zero is = absurd cc
get_back (y ∷ a) b (suc k) is = get_back a b k is ∙ ap (slice_get b) (omega arith)

number_of : (clauses : List Clause) (hint : ℕ) → (hint ≡ 0 → ⊥) → numbered clauses hint ≡ slice_get clauses (hint - 1)
number_of clauses zero is = absurd (is refl)
number_of clauses (suc k) is = ap (slice_get clauses) (omega arith)

pub among_first : (clauses : List Clause) (steps : List LogStep) (hint : ℕ) (clause : Clause) → (hint ≡ 0 → ⊥) → slice_get clauses (hint - 1) ≡ Some clause
    → Some clause ≡ numbered (clauses ++ clauses_of steps) hint
among_first clauses steps hint clause some is = sym (number_of (clauses ++ clauses_of steps) hint some ∙ get_front clauses (clauses_of steps) (hint - 1) clause is)

pub behind_first : (clauses : List Clause) (steps : List LogStep) (hint : ℕ) → (hint ≡ 0 → ⊥) → slice_get clauses (hint - 1) ≡ None
    → slice_get (clauses_of steps) (hint - 1 - length clauses) ≡ numbered (clauses ++ clauses_of steps) hint
behind_first clauses steps hint some none = sym (number_of (clauses ++ clauses_of steps) hint some ∙ get_back clauses (clauses_of steps) (hint - 1) none)
