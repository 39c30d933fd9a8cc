-- A stable sort by a number lists the items of each number in turn, those of one number in the order they had.
use Rattle.std.proofs.Common.{◌≡◌, ℕ, suc, zero, ◌+◌, ◌<◌, ◌≤◌, Bool, true, false, cond, not, ◌&&◌, eqb, ltb, List, [], ◌∷◌, ◌++◌, length, get_or, filter, ap, sym, ◌∙◌, refl, inl, inr, ◌⊎◌, Less, Equal, Greater, arith}
use Rattle.std.specs.List.{flat_map, range_with_len, AllByRecursion}
use Rattle.std.specs.List.Sorted.{IsNonDecreasingBy, IsStableByKey, ties}
use Rattle.std.specs.Ordering.{is_lt, nat_cmp}
use Rattle.std.proofs.Math.Path.{fun_ext}
use Rattle.std.proofs.lemmas.Bool.Decides.{nat_tests}
use Rattle.nir_print.specs.BlockGroups.{groups, not_same_above, is_same, split, least_here, groups-nil}

filter-none : {X : Type 0} (key : X → ℕ) (a : ℕ) (xs : List X) → AllByRecursion (λ x. a < key x) xs → filter (λ x. eqb (key x) a) xs ≡ []
filter-none key a [] h = refl
filter-none key a (x ∷ xs) h =
    ap (λ b. cond b (x ∷ filter (λ x. eqb (key x) a) xs) (filter (λ x. eqb (key x) a) xs)) (not_same_above (key x) a h.0) ∙ filter-none key a xs h.1

above_all : {X : Type 0} (key : X → ℕ) (a b : ℕ) (xs : List X) → a < b → AllByRecursion (λ x. b ≤ key x) xs → AllByRecursion (λ x. a < key x) xs
above_all key a b [] h all = tt
above_all key a b (x ∷ xs) h all = (omega (arith, all.0), above_all key a b xs h all.1)

least_later : {X : Type 0} (key : X → ℕ) (y : X) (xs : List X) (a n : ℕ) → a < key y → AllByRecursion (λ x. key y ≤ key x) xs
    → groups key (y ∷ xs) (a + 1) n ≡ y ∷ groups key xs (a + 1) n → groups key (y ∷ xs) a (suc n) ≡ y ∷ groups key xs a (suc n)
least_later key y xs a n above all later =
    let none = filter-none key a xs (above_all key a (key y) xs above all) in
    ap (λ b. cond b (y ∷ filter (λ x. eqb (key x) a) xs) (filter (λ x. eqb (key x) a) xs) ++ groups key (y ∷ xs) (a + 1) n) (not_same_above (key y) a above)
    ∙ ap (λ t. t ++ groups key (y ∷ xs) (a + 1) n) none
    ∙ later
    ∙ ap (λ t. y ∷ t ++ groups key xs (a + 1) n) (sym none)

-- the least item of all comes first
groups-least : {X : Type 0} (key : X → ℕ) (y : X) (xs : List X) (a n : ℕ) → a ≤ key y → key y < a + n → AllByRecursion (λ x. key y ≤ key x) xs → groups key (y ∷ xs) a n ≡ y ∷ groups key xs a n
groups-least key y xs a zero low high all = absurd (omega arith)
groups-least key y xs a (suc n) low high all =
    elim (split (key y) a low) [
      | inl same ↦ least_here key y xs a n same
      | inr above ↦ least_later key y xs a n above all (groups-least key y xs (a + 1) n (omega arith) (omega arith) all)
    ]

all_from_places : {X : Type 0} (P : X → Type 0) (xs : List X) → ((j : ℕ) (d : X) → j < length xs → P (get_or xs j d)) → AllByRecursion P xs
all_from_places P [] h = tt
all_from_places P (x ∷ xs) h = (h 0 x (omega arith), all_from_places P xs (λ j d l. h (suc j) d (omega arith)))

-- a sorted list is its groups
groups-sorted : {X : Type 0} (key : X → ℕ) (n : ℕ) (below : (x : X) → key x < n) (ys : List X) → IsNonDecreasingBy key ys → ys ≡ groups key ys 0 n
groups-sorted key n below [] up = sym (groups-nil key 0 n)
groups-sorted key n below (y ∷ ys) up =
    let least : AllByRecursion (λ x. key y ≤ key x) ys = all_from_places (λ x. key y ≤ key x) ys (λ j d l. up 0 (suc j) d (omega arith) (omega arith)) in
    ap (λ t. y ∷ t) (groups-sorted key n below ys (λ i j d l m. up (suc i) (suc j) d (omega arith) (omega arith)))
    ∙ sym (groups-least key y ys 0 n (omega arith) (omega (arith, below y)) least)

is_lt-nat_cmp : (m n : ℕ) → is_lt (nat_cmp m n) ≡ ltb m n
is_lt-nat_cmp m n =
    let greater : (b : Bool) → is_lt (cond b Equal Greater) ≡ false = λ b. elim b as (λ v. is_lt (cond v Equal Greater) ≡ false) [ true ↦ refl | false ↦ refl ] in
    let cases : (b : Bool) → is_lt (cond b Less (cond (eqb m n) Equal Greater)) ≡ b = λ b. elim b as (λ v. is_lt (cond v Less (cond (eqb m n) Equal Greater)) ≡ v) [ true ↦ refl | false ↦ greater (eqb m n) ] in
    cases (ltb m n)

-- items tie where their numbers are the same
ties-same : (m n : ℕ) → not (is_lt (nat_cmp m n)) && not (is_lt (nat_cmp n m)) ≡ eqb n m
ties-same m n = ap (λ b. not b && not (is_lt (nat_cmp n m))) (is_lt-nat_cmp m n) ∙ ap (λ b. not (ltb m n) && not b) (is_lt-nat_cmp n m) ∙ grind (arith, nat_tests)

filter-ties : {X : Type 0} (key : X → ℕ) (x : X) (k : ℕ) (xs : List X) → key x ≡ k → filter (ties (λ a b. is_lt (nat_cmp (key a) (key b))) x) xs ≡ filter (λ y. eqb (key y) k) xs
filter-ties key x k xs same =
    ap (λ p. filter p xs) (fun_ext (λ y. ties-same (key x) (key y) ∙ ap (λ j. eqb (key y) j) same))

some_or_none : {X : Type 0} (p : X → Bool) (xs : List X) → ((x : X) × (p x ≡ true)) ⊎ (filter p xs ≡ [])
some_or_none p [] = inr refl
some_or_none {X} p (x ∷ xs) =
    let cases : (b : Bool) → p x ≡ b → ((y : X) × (p y ≡ true)) ⊎ (filter p (x ∷ xs) ≡ []) =
    λ b. elim b as (λ v. p x ≡ v → ((y : X) × (p y ≡ true)) ⊎ (filter p (x ∷ xs) ≡ [])) [
      | true ↦ λ e. inl (x, e)
      | false ↦ λ e. elim (some_or_none p xs) [ inl found ↦ inl found | inr none ↦ inr (ap (λ b. cond b (x ∷ filter p xs) (filter p xs)) e ∙ none) ]
    ] in
    cases (p x) refl

-- a stable sort keeps each group
filter-stable : {X : Type 0} (key : X → ℕ) (xs ys : List X) → IsStableByKey key nat_cmp xs ys → (k : ℕ) → filter (λ y. eqb (key y) k) ys ≡ filter (λ y. eqb (key y) k) xs
filter-stable {X} key xs ys stable k =
    let at : (x : X) → key x ≡ k → filter (λ y. eqb (key y) k) ys ≡ filter (λ y. eqb (key y) k) xs =
    λ x same. sym (filter-ties key x k ys same) ∙ stable x ∙ filter-ties key x k xs same in
    elim (some_or_none (λ y. eqb (key y) k) xs) [
      | inl found ↦ at found.0 (is_same (key found.0) k found.1)
      | inr none ↦ elim (some_or_none (λ y. eqb (key y) k) ys) [ inl found ↦ at found.0 (is_same (key found.0) k found.1) | inr none_too ↦ none_too ∙ sym none ]
    ]

pub groups-stable_sort : {X : Type 0} (key : X → ℕ) (n : ℕ) (below : (x : X) → key x < n) (xs ys : List X) → IsNonDecreasingBy key ys → IsStableByKey key nat_cmp xs ys → ys ≡ groups key xs 0 n
groups-stable_sort key n below xs ys up stable =
    groups-sorted key n below ys up ∙ ap (λ f. flat_map f (range_with_len 0 n)) (fun_ext (λ k. filter-stable key xs ys stable k))
