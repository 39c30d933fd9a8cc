-- The items of each number in turn, those of one number in the order they had: they are the items in another order.
use Rattle.std.proofs.Common.{◌≡◌, ℕ, suc, zero, ◌+◌, ◌<◌, ◌≤◌, Bool, true, false, cond, not, eqb, List, [], ◌∷◌, ◌++◌, length, filter, ap, sym, ◌∙◌, refl, subst, inl, inr, ◌⊎◌, arith}
use Rattle.std.specs.List.{flat_map, range_with_len, AllByRecursion}
use Rattle.std.specs.List.Sorted.{IsPermutation}
use Rattle.std.proofs.lemmas.Bool.Decides.{nat_tests}
use Rattle.std.proofs.lemmas.List.Elements.{All-from_recursion, recursion_from_All}
use Rattle.std.proofs.lemmas.List.Sorted.{All-permutation, IsPermutation-append_right, IsPermutation-cons, IsPermutation-middle, IsPermutation-refl, IsPermutation-sym, IsPermutation-trans}
use Rattle.std.proofs.lemmas.List.Sums.{prefix_len-le-length}
use Rattle.nir_ir.specs.declared.node.PhiSource.{PhiSource}
use Rattle.nir_print.specs.Naming.{Naming, block_place, in_block_order}

-- the items of each number from a on, for n numbers
abbrev pub groups : {X : Type 0} → (X → ℕ) → List X → ℕ → ℕ → List X
groups key xs a n = flat_map (λ k. filter (λ x. eqb (key x) k) xs) (range_with_len a n)

not_same : (m n : ℕ) → m < n → eqb m n ≡ false
not_same m n h = grind (arith, nat_tests)

pub not_same_above : (m n : ℕ) → n < m → eqb m n ≡ false
not_same_above m n h = grind (arith, nat_tests)

pub is_same : (m n : ℕ) → eqb m n ≡ true → m ≡ n
is_same m n h = grind (arith, nat_tests)

is_above : (m n : ℕ) → n ≤ m → eqb m n ≡ false → n < m
is_above m n h e = grind (arith, nat_tests)

-- an item of a lower number is in none of the groups
groups-below : {X : Type 0} (key : X → ℕ) (y : X) (xs : List X) (a n : ℕ) → key y < a → groups key (y ∷ xs) a n ≡ groups key xs a n
groups-below key y xs a zero h = refl
groups-below key y xs a (suc n) h =
    ap (λ b. cond b (y ∷ filter (λ x. eqb (key x) a) xs) (filter (λ x. eqb (key x) a) xs) ++ groups key (y ∷ xs) (a + 1) n) (not_same (key y) a h)
    ∙ ap (λ t. filter (λ x. eqb (key x) a) xs ++ t) (groups-below key y xs (a + 1) n (omega arith))

pub split : (m a : ℕ) → a ≤ m → (m ≡ a) ⊎ (a < m)
split m a low =
    let cases : (b : Bool) → eqb m a ≡ b → (m ≡ a) ⊎ (a < m) = λ b. elim b as (λ v. eqb m a ≡ v → (m ≡ a) ⊎ (a < m)) [ true ↦ λ e. inl (is_same m a e) | false ↦ λ e. inr (is_above m a low e) ] in
    cases (eqb m a) refl

same_yes : (m a : ℕ) → m ≡ a → eqb m a ≡ true
same_yes m a h = grind (arith, nat_tests)

pub least_here : {X : Type 0} (key : X → ℕ) (y : X) (xs : List X) (a n : ℕ) → key y ≡ a → groups key (y ∷ xs) a (suc n) ≡ y ∷ groups key xs a (suc n)
least_here key y xs a n same =
    ap (λ b. cond b (y ∷ filter (λ x. eqb (key x) a) xs) (filter (λ x. eqb (key x) a) xs) ++ groups key (y ∷ xs) (a + 1) n) (same_yes (key y) a same)
    ∙ ap (λ t. y ∷ filter (λ x. eqb (key x) a) xs ++ t) (groups-below key y xs (a + 1) n (omega arith))

pub groups-nil : {X : Type 0} (key : X → ℕ) (a n : ℕ) → groups key [] a n ≡ []
groups-nil key a zero = refl
groups-nil key a (suc n) = groups-nil key (a + 1) n

-- one more item joins the group of its number
groups-cons : {X : Type 0} (key : X → ℕ) (y : X) (xs : List X) (a n : ℕ) → a ≤ key y → key y < a + n → IsPermutation (groups key (y ∷ xs) a n) (y ∷ groups key xs a n)
groups-cons key y xs a zero low high = absurd (omega arith)
groups-cons {X} key y xs a (suc n) low high =
    let whole : List X = groups key (y ∷ xs) a (suc n) in
    let here : List X = filter (λ x. eqb (key x) a) xs in
    let behind : List X = groups key xs (a + 1) n in
    elim (split (key y) a low) [
      | inl same ↦ subst (λ l. IsPermutation l (y ∷ groups key xs a (suc n))) (sym (least_here key y xs a n same)) (IsPermutation-refl (y ∷ groups key xs a (suc n)))
      | inr above ↦
          let apart : whole ≡ here ++ groups key (y ∷ xs) (a + 1) n = ap (λ b. cond b (y ∷ here) here ++ groups key (y ∷ xs) (a + 1) n) (not_same_above (key y) a above) in
          subst (λ l. IsPermutation l (y ∷ (here ++ behind))) (sym apart)
          (IsPermutation-trans (here ++ groups key (y ∷ xs) (a + 1) n) (here ++ (y ∷ behind)) (y ∷ (here ++ behind))
          (IsPermutation-append_right here (groups key (y ∷ xs) (a + 1) n) (y ∷ behind) (groups-cons key y xs (a + 1) n (omega arith) (omega arith)))
          (IsPermutation-middle here y behind))
    ]

groups-permutation : {X : Type 0} (key : X → ℕ) (n : ℕ) (below : (x : X) → key x < n) (xs : List X) → IsPermutation xs (groups key xs 0 n)
groups-permutation {X} key n below [] = let none : List X = [] in subst (IsPermutation none) (sym (groups-nil key 0 n)) (IsPermutation-refl none)
groups-permutation key n below (y ∷ xs) =
    IsPermutation-trans (y ∷ xs) (y ∷ groups key xs 0 n) (groups key (y ∷ xs) 0 n)
    (IsPermutation-cons y xs (groups key xs 0 n) (groups-permutation key n below xs))
    (IsPermutation-sym (groups key (y ∷ xs) 0 n) (y ∷ groups key xs 0 n) (groups-cons key y xs 0 n (omega arith) (omega (arith, below y))))

-- sources in block order are the sources in another order
pub in_block_order-permutation : (naming : Naming) (sources : List PhiSource) → IsPermutation sources (in_block_order naming sources)
in_block_order-permutation naming sources =
    groups-permutation (λ source. block_place naming source.from) (length naming.blocks + 1)
    (λ source. omega (arith, prefix_len-le-length (λ x. not (eqb source.from.0 x)) naming.blocks)) sources

-- what holds of each of a list holds of each of it in another order
pub all_permuted : {X : Type 0} (P : X → Type 0) (xs ys : List X) → IsPermutation xs ys → AllByRecursion P xs → AllByRecursion P ys
all_permuted P xs ys order all = recursion_from_All P ys (All-permutation P xs ys order (All-from_recursion P xs all))
