-- Numbers and their places: where none is twice, each that is added comes last.
use Rattle.std.proofs.Common.{◌≡◌, ℕ, suc, zero, ◌+◌, ◌<◌, ◌≤◌, Bool, true, false, cond, eqb, ltb, List, [], ◌∷◌, length, get_or, take, ap, sym, ◌∙◌, refl, arith, Some, None, not, Option, ◌++◌}
use Rattle.std.proofs.lemmas.List.{take_more}
use Rattle.indexmap.specs.IndexSet.{insert_key}
use Rattle.std.specs.List.{IsDistinct, AllByRecursion, list_any, position, position_or_len}
use Rattle.std.proofs.lemmas.List.Sums.{prefix_len-le-length}
use Rattle.std.proofs.lemmas.Bool.Decides.{nat_tests}

all_by_recursion_at : (P : ℕ → Type 0) (xs : List ℕ) (i d : ℕ) → i < length xs → AllByRecursion P xs → P (get_or xs i d)
all_by_recursion_at P [] i d h a = absurd (omega arith)
all_by_recursion_at P (x ∷ xs) zero d h a = a.0
all_by_recursion_at P (x ∷ xs) (suc i) d h a = all_by_recursion_at P xs i d (omega arith) a.1

eqb-other : (x y : ℕ) → eqb x y ≡ false → eqb y x ≡ false
eqb-other x y h = grind (arith, nat_tests)

not_below : (m n : ℕ) → m ≤ n → ltb m n ≡ false → n ≡ m
not_below m n h e = grind (arith, nat_tests)

pub list_any-before : (xs : List ℕ) (i d : ℕ) → IsDistinct eqb xs → i < length xs → list_any (eqb (get_or xs i d)) (take i xs) ≡ false
unfolding IsDistinct
list_any-before [] i d distinct h = absurd (omega arith)
list_any-before (x ∷ xs) zero d distinct h = refl
list_any-before (x ∷ xs) (suc i) d distinct h =
    let here = eqb-other x (get_or xs i d) (all_by_recursion_at (λ y. eqb x y ≡ false) xs i d (omega arith) distinct.0) in
    let behind = list_any-before xs i d distinct.1 (omega arith) in
    rw (here, behind)

-- the next number goes last
pub insert_key-next : (keys numbers : List ℕ) (i : ℕ) → IsDistinct eqb numbers → i < length numbers → keys ≡ take i numbers → insert_key eqb keys (get_or numbers i 0) ≡ take (i + 1) numbers
insert_key-next keys numbers i distinct within h =
    ap (λ ks. insert_key eqb ks (get_or numbers i 0)) h
    ∙ ap (λ b. cond b (take i numbers) (take i numbers ++ get_or numbers i 0 ∷ [])) (list_any-before numbers i 0 distinct within)
    ∙ sym (take_more numbers i 0 within)

pub position_or_len-absent : {X : Type 0} (p : X → Bool) (xs : List X) → None ≡ position p xs → length xs ≡ position_or_len p xs
position_or_len-absent p xs h =
    let none : Option ℕ = None in
    let cases : (b : Bool) → ltb (position_or_len p xs) (length xs) ≡ b → none ≡ cond b (Some (position_or_len p xs)) none → length xs ≡ position_or_len p xs =
    λ b. elim b as (λ v. ltb (position_or_len p xs) (length xs) ≡ v → none ≡ cond v (Some (position_or_len p xs)) none → length xs ≡ position_or_len p xs)
    [ true ↦ λ e found. cc | false ↦ λ e absent. not_below (position_or_len p xs) (length xs) (prefix_len-le-length (λ x. not (p x)) xs) e ] in
    cases (ltb (position_or_len p xs) (length xs)) refl h

pub place_below : (numbers : List ℕ) (n : ℕ) → position_or_len (eqb n) numbers < length numbers + 1
place_below numbers n = omega (arith, prefix_len-le-length (λ x. not (eqb n x)) numbers)
