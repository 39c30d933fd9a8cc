-- General facts on options, lists and what holds of each of their items.
use Rattle.std.specs.Prelude.{◌≡◌, ◌<◌, ℕ, zero, suc, Bool, true, Option, Some, None, List, [], ◌∷◌, length, slice_get, slice_index, slice_set}
use Rattle.std.proofs.Common.{sym, ◌∙◌, arith, ◌⊎◌, inl, inr}
use Rattle.std.proofs.lemmas.Bool.{and_parts}
use Rattle.std.proofs.lemmas.Option.{none-some, same_Some}
use Rattle.std.specs.List.{AllByRecursion, list_all}

-- a test that all pass is passed at a place
pub passes_at : (test : ℕ → Bool) (list : List ℕ) (i : ℕ) → list_all test list ≡ true → i < length list → test (slice_index list i) ≡ true
passes_at test [] i all within = absurd (omega (arith, within))
passes_at test (x ∷ list) zero all within = (and_parts (test x) (list_all test list) all).0
passes_at test (x ∷ list) (suc i) all within = passes_at test list i (and_parts (test x) (list_all test list) all).1 (omega (arith, within))

pub all_both : {A : Type 0} (P Q R : A → Type 0) (list : List A) → ((a : A) → P a → Q a → R a) → AllByRecursion P list → AllByRecursion Q list → AllByRecursion R list
all_both P Q R [] f all others = tt
all_both P Q R (a ∷ list) f all others = (f a all.0 others.0, all_both P Q R list f all.1 others.1)

-- what is read after a write: at its place, and of what was there before
pub set_kept : {A : Type 0} (list : List (Option A)) (i k : ℕ) (a b : A) → slice_get list i ≡ Some None → slice_get list k ≡ Some (Some b) → slice_get (slice_set list i (Some a)) k ≡ Some (Some b)
set_kept [] i k a b at there = absurd (none-some (Some b) there)
set_kept (x ∷ list) zero zero a b at there = absurd (none-some b (same_Some None (Some b) (sym at ∙ there)))
set_kept (x ∷ list) zero (suc k) a b at there = there
set_kept (x ∷ list) (suc i) zero a b at there = there
set_kept (x ∷ list) (suc i) (suc k) a b at there = set_kept list i k a b at there

pub set_read : {A : Type 0} (list : List (Option A)) (i k : ℕ) (a b : A) → slice_get (slice_set list i (Some a)) k ≡ Some (Some b) → (a ≡ b) ⊎ (slice_get list k ≡ Some (Some b))
set_read [] i k a b at = inr at
set_read (x ∷ list) zero zero a b at = inl (same_Some a b (same_Some (Some a) (Some b) at))
set_read (x ∷ list) zero (suc k) a b at = inr at
set_read (x ∷ list) (suc i) zero a b at = inr at
set_read (x ∷ list) (suc i) (suc k) a b at = set_read list i k a b at
