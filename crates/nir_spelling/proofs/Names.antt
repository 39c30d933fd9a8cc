-- The place of a name among others that are all different, and what a place says of a name.
use Rattle.std.proofs.Common.{◌≡◌, ℕ, zero, suc, ◌<◌, Bool, true, false, cond, not, List, [], ◌∷◌, ◌++◌, take, length, Option, Some, None, is_some, nat_lt, refl, sym, ap, ◌∙◌, subst, arith, option_map}
use Rattle.std.specs.Prelude.{slice_get}
use Rattle.std.specs.List.{AllByRecursion, IsDistinct}
use Rattle.std.specs.Option.{unwrap_or}
use Rattle.std.specs.Str.{bytes_eq}
use Rattle.std.proofs.lemmas.Option.{same_Some}
use Rattle.std.proofs.lemmas.Slice.Eq.{bytes_eq-Decides}
use Rattle.nir_text.specs.Naming.{place_of, is_among_first}

pub bytes_same : (a b : List ℕ) → bytes_eq a b ≡ true → a ≡ b
bytes_same a b = (bytes_eq-Decides a b).0

pub bytes_eq-refl : (a : List ℕ) → bytes_eq a a ≡ true
bytes_eq-refl a = (bytes_eq-Decides a a).1 refl

-- ---- places

place_behind : (o : Option ℕ) (i : ℕ) → option_map suc o ≡ Some i → (j : ℕ) × (o ≡ Some j) × (suc j ≡ i)
place_behind None i e = absurd cc
place_behind (Some j) i e = (j, refl, same_Some (suc j) i e)

-- a name stands where its place is
pub place_of-get : (name : List ℕ) (names : List (List ℕ)) (i : ℕ) → place_of name names ≡ Some i → slice_get names i ≡ Some name
place_of-get name [] i e = absurd cc
place_of-get name (other ∷ others) i e = by_test (bytes_eq other name) refl e (place_of-get name others)
  where
    by_test : (b : Bool) → bytes_eq other name ≡ b → cond b (Some 0) (option_map suc (place_of name others)) ≡ Some i → ((j : ℕ) → place_of name others ≡ Some j → slice_get others j ≡ Some name) → slice_get (other ∷ others) i ≡ Some name
    by_test true same found rest = subst (λ n. slice_get (other ∷ others) n ≡ Some name) (same_Some 0 i found) (ap Some (bytes_same other name same))
    by_test false differs found rest =
        let later = place_behind (place_of name others) i found in
        subst (λ n. slice_get (other ∷ others) n ≡ Some name) later.2 (rest later.0 later.1)

differs_at : (name : List ℕ) (names : List (List ℕ)) (i : ℕ) (other : List ℕ) → AllByRecursion (λ n. bytes_eq other n ≡ false) names → slice_get names i ≡ Some name → bytes_eq other name ≡ false
differs_at name [] i other all e = absurd cc
differs_at name (n ∷ names) zero other all e = subst (λ x. bytes_eq other x ≡ false) (same_Some n name e) all.0
differs_at name (n ∷ names) (suc i) other all e = differs_at name names i other all.1 e

-- and its place is where it stands
pub get-place_of : (name : List ℕ) (names : List (List ℕ)) (i : ℕ) → IsDistinct bytes_eq names → slice_get names i ≡ Some name → place_of name names ≡ Some i
unfolding IsDistinct
get-place_of name [] i distinct e = absurd cc
get-place_of name (other ∷ others) zero distinct e =
    let same : bytes_eq other name ≡ true = subst (λ n. bytes_eq other n ≡ true) (same_Some other name e) (bytes_eq-refl other) in
    rw same refl
get-place_of name (other ∷ others) (suc i) distinct e = rw (differs_at name others i other distinct.0 e, get-place_of name others i distinct.1 e) refl

pub get-within : {A : Type 0} (xs : List A) (i : ℕ) (x : A) → slice_get xs i ≡ Some x → i < length xs
get-within [] i x e = absurd cc
get-within (y ∷ xs) zero x e = omega arith
get-within (y ∷ xs) (suc i) x e = let w = get-within xs i x e in omega (arith, w)

-- ---- the first of several names

-- a place among the first is a place
pub place_of-take : (name : List ℕ) (names : List (List ℕ)) (n i : ℕ) → place_of name (take n names) ≡ Some i → (place_of name names ≡ Some i) × (i < n)
place_of-take name [] zero i e = absurd cc
place_of-take name [] (suc n) i e = absurd cc
place_of-take name (other ∷ others) zero i e = absurd cc
place_of-take name (other ∷ others) (suc n) i e = by_test (bytes_eq other name) e (place_of-take name others n)
  where
    by_test : (b : Bool) → cond b (Some 0) (option_map suc (place_of name (take n others))) ≡ Some i → ((j : ℕ) → place_of name (take n others) ≡ Some j → (place_of name others ≡ Some j) × (j < n))
        → (cond b (Some 0) (option_map suc (place_of name others)) ≡ Some i) × (i < suc n)
    by_test true found rest = let same = same_Some 0 i found in (found, omega (arith, same))
    by_test false found rest =
        let later = place_behind (place_of name (take n others)) i found in
        let more = rest later.0 later.1 in
        (ap (option_map suc) more.0 ∙ ap Some later.2, omega (arith, more.1, later.2))

-- a name that has its place behind the first, or none among them, is none of them
pub no_place : (name : List ℕ) (names : List (List ℕ)) (n : ℕ) → is_among_first n (place_of name names) ≡ false → is_some (place_of name (take n names)) ≡ false
no_place name names n e = by_place (place_of name (take n names)) (place_of-take name names n) e
  where
    by_place : (o : Option ℕ) → ((i : ℕ) → o ≡ Some i → (place_of name names ≡ Some i) × (i < n)) → is_among_first n (place_of name names) ≡ false → is_some o ≡ false
    by_place None is e = refl
    by_place (Some i) is e =
        let found = is i refl in
        let among : nat_lt i n ≡ false = sym (ap (is_among_first n) found.0) ∙ e in
        absurd (grind (arith, among, found.1))

-- one name more
pub take_one_more : {A : Type 0} (xs : List A) (n : ℕ) (x : A) → slice_get xs n ≡ Some x → take (suc n) xs ≡ take n xs ++ x ∷ []
take_one_more [] n x e = absurd cc
take_one_more (y ∷ xs) zero x e = ap (λ z. z ∷ []) (same_Some y x e)
take_one_more (y ∷ xs) (suc n) x e = ap (λ l. y ∷ l) (take_one_more xs n x e)

pub get_of_more : {A : Type 0} (xs : List A) (n : ℕ) (front : List A) (x : A) → length front ≡ n → take (suc n) xs ≡ front ++ x ∷ [] → slice_get xs n ≡ Some x
get_of_more [] n [] x len e = absurd cc
get_of_more [] n (f ∷ front) x len e = absurd cc
get_of_more (y ∷ xs) zero [] x len e = cc
get_of_more (y ∷ xs) zero (f ∷ front) x len e = absurd (omega (arith, len))
get_of_more (y ∷ xs) (suc n) [] x len e = absurd (omega (arith, len))
get_of_more (y ∷ xs) (suc n) (f ∷ front) x len e = get_of_more xs n front x (omega (arith, len)) cc

-- ---- known places

pub known_place : (m : ℕ) (o : Option ℕ) → not (is_among_first m o) ≡ false → o ≡ Some (unwrap_or o 0)
known_place m None e = absurd cc
known_place m (Some place) e = refl
