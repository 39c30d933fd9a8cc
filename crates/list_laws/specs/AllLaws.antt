-- Laws of what holds of each item of a list.
use Rattle.std.specs.Prelude.{◌≡◌, ◌<◌, ℕ, zero, suc, Bool, true, List, [], ◌∷◌, ◌++◌, map, length, filter, slice_get, slice_index, Some}
use Rattle.std.proofs.Common.{sym, ◌∙◌, ap, arith}
use Rattle.std.proofs.lemmas.Bool.{and_parts, cond_both}
use Rattle.std.proofs.lemmas.List.Folds.{list_all-append}
use Rattle.std.proofs.lemmas.Option.{none-some, same_Some}
use Rattle.std.specs.List.{AllByRecursion, flat_map, list_all}

-- of two lists, one after the other
pub all_append : {A : Type 0} (P : A → Type 0) (first second : List A) → AllByRecursion P first → AllByRecursion P second → AllByRecursion P (first ++ second)
all_append P [] second f s = s
all_append P (a ∷ first) second f s = (f.0, all_append P first second f.1 s)

pub all_front : {A : Type 0} (P : A → Type 0) (first second : List A) → AllByRecursion P (first ++ second) → AllByRecursion P first
all_front P [] second h = tt
all_front P (a ∷ first) second h = (h.0, all_front P first second h.1)

pub all_back : {A : Type 0} (P : A → Type 0) (first second : List A) → AllByRecursion P (first ++ second) → AllByRecursion P second
all_back P [] second h = h
all_back P (a ∷ first) second h = all_back P first second h.1

-- what follows item by item
pub all_each : {A : Type 0} (P Q : A → Type 0) → ((a : A) → P a → Q a) → (list : List A) → AllByRecursion P list → AllByRecursion Q list
all_each P Q follows [] all = tt
all_each P Q follows (a ∷ list) all = (follows a all.0, all_each P Q follows list all.1)

pub all_both : {A : Type 0} (P Q : A → Type 0) (list : List A) → AllByRecursion P list → AllByRecursion Q list → AllByRecursion (λ a. P a × Q a) list
all_both P Q [] p q = tt
all_both P Q (a ∷ list) p q = ((p.0, q.0), all_both P Q list p.1 q.1)

pub all_of_each : {A : Type 0} (P : A → Type 0) → ((a : A) → P a) → (list : List A) → AllByRecursion P list
all_of_each P each [] = tt
all_of_each P each (a ∷ list) = (each a, all_of_each P each list)

-- of lists made of a list
pub all_map : {A B : Type 0} (f : A → B) (P : B → Type 0) (list : List A) → AllByRecursion (λ a. P (f a)) list → AllByRecursion P (map f list)
all_map f P [] all = tt
all_map f P (a ∷ list) all = (all.0, all_map f P list all.1)

pub all_of_map : {A B : Type 0} (f : A → B) (P : B → Type 0) (list : List A) → AllByRecursion P (map f list) → AllByRecursion (λ a. P (f a)) list
all_of_map f P [] all = tt
all_of_map f P (a ∷ list) all = (all.0, all_of_map f P list all.1)

pub all_filter : {A : Type 0} (P : A → Type 0) (test : A → Bool) (list : List A) → AllByRecursion P list → AllByRecursion P (filter test list)
all_filter P test [] h = tt
all_filter P test (a ∷ list) h = cond_both (test a) (a ∷ filter test list) (filter test list) (AllByRecursion P) (λ is. (h.0, all_filter P test list h.1)) (λ is. all_filter P test list h.1)

pub all_flat_map : {A B : Type 0} (P : B → Type 0) (f : A → List B) → ((a : A) → AllByRecursion P (f a)) → (list : List A) → AllByRecursion P (flat_map f list)
all_flat_map P f h [] = tt
all_flat_map P f h (a ∷ list) = all_append P (f a) (flat_map f list) (h a) (all_flat_map P f h list)

-- what holds of all that is given holds of what each gives
pub given_by_each : {A B : Type 0} (P : B → Type 0) (gives : A → List B) (list : List A) → AllByRecursion P (flat_map gives list) → AllByRecursion (λ a. AllByRecursion P (gives a)) list
given_by_each P gives [] all = tt
given_by_each P gives (a ∷ list) all = (all_front P (gives a) (flat_map gives list) all, given_by_each P gives list (all_back P (gives a) (flat_map gives list) all))

-- of the item at a place
pub all_at : (P : ℕ → Type 0) (list : List ℕ) (i : ℕ) → AllByRecursion P list → i < length list → P (slice_index list i)
all_at P [] i all within = absurd (omega (arith, within))
all_at P (x ∷ list) zero all within = all.0
all_at P (x ∷ list) (suc i) all within = all_at P list i all.1 (omega (arith, within))

-- the same of tests
pub passes_at : {A : Type 0} (test : A → Bool) (list : List A) (at : ℕ) (a : A) → list_all test list ≡ true → slice_get list at ≡ Some a → test a ≡ true
passes_at test [] at a all found = absurd (none-some a found)
passes_at test (first ∷ list) zero a all found = ap test (sym (same_Some first a found)) ∙ (and_parts _ _ all).0
passes_at test (first ∷ list) (suc at) a all found = passes_at test list at a (and_parts _ _ all).1 found

pub passes_append : {A : Type 0} (test : A → Bool) (first second : List A) → list_all test (first ++ second) ≡ true → (list_all test first ≡ true) × (list_all test second ≡ true)
passes_append test first second all = and_parts (list_all test first) (list_all test second) (sym (list_all-append test first second) ∙ all)
