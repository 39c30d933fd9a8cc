-- Flags of literals: what one more does, and what is left where they are taken back.
use Rattle.std.proofs.Common.{◌≡◌, ◌<◌, ◌≤◌, ℕ, zero, suc, ℤ, pos, negsuc, Bool, true, false, List, [], ◌∷◌, ◌++◌, length, None, refl, sym, ap, ◌∙◌, subst, arith, get_or, set, ⊎_elim}
use Rattle.std.specs.Prelude.{◌||◌, nat_eq, slice_get}
use Rattle.std.specs.List.{AllByRecursion}
use Rattle.std.specs.Ordering.{int_eq}
use Rattle.std.proofs.lemmas.Bool.{cases_Bool, eq-eqb, eqb-true, or_right}
use Rattle.std.proofs.lemmas.Bool.Decides.{Decides-int_eq}
use Rattle.std.proofs.lemmas.List.{get_or-set_other, get_or-set_same, length-set}
use Rattle.clause_check.specs.Logs.{is_among}
use Rattle.clause_check.specs.Marked.{AreMarked, away, literal_of, literals_of, place_of}

-- ---- places

pub place_same : (a b : ℤ) → place_of a ≡ place_of b → a ≡ b
place_same (pos n) (pos m) e = ap pos (omega (arith, e))
place_same (pos n) (negsuc m) e = absurd (omega (arith, e))
place_same (negsuc n) (pos m) e = absurd (omega (arith, e))
place_same (negsuc n) (negsuc m) e = let s : n ≡ m = omega (arith, e) in ap negsuc s

place_away : (z : ℤ) → place_of (away z) ≡ suc (suc (place_of z))
place_away (pos n) = omega arith
place_away (negsuc n) = omega arith

-- each number is the place of its literal
place_back : (place : ℕ) → place_of (literal_of place) ≡ place
place_back zero = refl
place_back (suc zero) = refl
place_back (suc (suc place)) = place_away (literal_of place) ∙ ap (λ p. suc (suc p)) (place_back place)

literal_back : (z : ℤ) → literal_of (place_of z) ≡ z
literal_back z = place_same (literal_of (place_of z)) z (place_back (place_of z))

literals_more : (places : List ℕ) (place : ℕ) → literals_of (places ++ place ∷ []) ≡ literals_of places ++ literal_of place ∷ []
literals_more [] place = refl
literals_more (own ∷ places) place = ap (λ l. literal_of own ∷ l) (literals_more places place)

pub literals_added : (places : List ℕ) (literal : ℤ) → literals_of (places ++ place_of literal ∷ []) ≡ literals_of places ++ literal ∷ []
literals_added places literal = literals_more places (place_of literal) ∙ ap (λ z. literals_of places ++ z ∷ []) (literal_back literal)

-- ---- lists with one literal more

among_more : (k : ℤ) (falses : List ℤ) (l : ℤ) → is_among k (falses ++ l ∷ []) ≡ (is_among k falses || int_eq k l)
among_more k [] l = or_none (int_eq k l)
  where
    or_none : (b : Bool) → (b || false) ≡ (false || b)
    or_none true = refl
    or_none false = refl
among_more k (x ∷ falses) l = ap (λ b. int_eq k x || b) (among_more k falses l) ∙ grouped (int_eq k x) (is_among k falses) (int_eq k l)
  where
    grouped : (a b c : Bool) → (a || (b || c)) ≡ ((a || b) || c)
    grouped true b c = refl
    grouped false b c = refl

among_last : (falses : List ℤ) (l : ℤ) → is_among l (falses ++ l ∷ []) ≡ true
among_last falses l = among_more l falses l ∙ or_right (is_among l falses) (int_eq l l) ((Decides-int_eq l l).1 refl)

not_equal : (k l : ℤ) → (k ≡ l → ⊥) → int_eq k l ≡ false
not_equal k l apart = ⊎_elim (λ same. absurd (apart ((Decides-int_eq k l).0 same))) (λ other. other) (cases_Bool (int_eq k l))

among_before : (k : ℤ) (falses : List ℤ) (l : ℤ) → (k ≡ l → ⊥) → is_among k (falses ++ l ∷ []) ≡ is_among k falses
among_before k falses l apart = among_more k falses l ∙ ap (λ b. is_among k falses || b) (not_equal k l apart) ∙ or_false (is_among k falses)
  where
    or_false : (b : Bool) → (b || false) ≡ b
    or_false true = refl
    or_false false = refl

abbrev IsWithin : List Bool → ℕ → Type 0
IsWithin flags place = place < length flags

within_more : (flags others : List Bool) (places : List ℕ) → length flags ≤ length others → AllByRecursion (IsWithin flags) places → AllByRecursion (IsWithin others) places
within_more flags others [] more all = tt
within_more flags others (p ∷ places) more all = let own = all.0 in (omega (arith, own, more), within_more flags others places more all.1)

within_last : (flags : List Bool) (places : List ℕ) (p : ℕ) → AllByRecursion (IsWithin flags) places → p < length flags → AllByRecursion (IsWithin flags) (places ++ p ∷ [])
within_last flags [] p all own = (own, tt)
within_last flags (x ∷ places) p all own = (all.0, within_last flags places p all.1 own)

within_front : (flags : List Bool) (places : List ℕ) (p : ℕ) → AllByRecursion (IsWithin flags) (places ++ p ∷ []) → AllByRecursion (IsWithin flags) places × (p < length flags)
within_front flags [] p all = (tt, all.0)
within_front flags (x ∷ places) p all = let rest = within_front flags places p all.1 in ((all.0, rest.0), rest.1)

-- ---- flags

get_none : (flags : List Bool) (place : ℕ) → slice_get flags place ≡ None → false ≡ get_or flags place false
get_none [] place is = refl
get_none (flag ∷ flags) zero is = absurd cc
get_none (flag ∷ flags) (suc place) is = get_none flags place is

pub not_flagged : (flags : List Bool) (places : List ℕ) (literal : ℤ) → AreMarked flags places → slice_get flags (place_of literal) ≡ None → false ≡ is_among literal (literals_of places)
not_flagged flags places literal are is = get_none flags (place_of literal) is ∙ are.told literal

pub get_behind : (flags : List Bool) (place : ℕ) → get_or (flags ++ false ∷ []) place false ≡ get_or flags place false
get_behind [] zero = refl
get_behind [] (suc place) = refl
get_behind (flag ∷ flags) zero = refl
get_behind (flag ∷ flags) (suc place) = get_behind flags place

-- one more literal is flagged
pub marked_more : (flags more : List Bool) (places : List ℕ) (l : ℤ) → AreMarked flags places → ((place : ℕ) → get_or more place false ≡ get_or flags place false) → length flags ≤ length more
    → place_of l < length more → AreMarked (set more (place_of l) true) (places ++ place_of l ∷ [])
marked_more flags more places l are same longer within = record { told = λ k. rw (literals_added places l) (told k); placed = placed }
  where
    falses : List ℤ
    falses = literals_of places

    told : (k : ℤ) → get_or (set more (place_of l) true) (place_of k) false ≡ is_among k (falses ++ l ∷ [])
    told k =
        ⊎_elim
        (λ equal.
        let e : k ≡ l = (Decides-int_eq k l).0 equal in
        subst (λ x. get_or (set more (place_of l) true) (place_of x) false ≡ is_among x (falses ++ l ∷ [])) (sym e)
        (get_or-set_same more (place_of l) true false within ∙ sym (among_last falses l)))
        (λ other.
        let apart : k ≡ l → ⊥ = λ e. absurd (let t = (Decides-int_eq k l).1 e in cc) in
        get_or-set_other more (place_of l) (place_of k) true false (λ p. apart (place_same k l p)) ∙ same (place_of k) ∙ are.told k ∙ sym (among_before k falses l apart))
        (cases_Bool (int_eq k l))

    placed : AllByRecursion (λ place. place < length (set more (place_of l) true)) (places ++ place_of l ∷ [])
    placed =
        within_last (set more (place_of l) true) places (place_of l)
        (within_more flags (set more (place_of l) true) places (subst (λ n. length flags ≤ n) (sym (length-set more (place_of l) true)) longer) are.placed)
        (subst (λ n. place_of l < n) (sym (length-set more (place_of l) true)) within)

-- ---- taking flags back

-- each flag that is set is that of one of these places
pub record AreBacked (flags : List Bool) (places : List ℕ) : Type 0 where
  pub told : (literal : ℤ) → get_or flags (place_of literal) false ≡ true → is_among literal (literals_of places) ≡ true
  pub placed : AllByRecursion (λ place. place < length flags) places

pub backed_of : (flags : List Bool) (places : List ℕ) → AreMarked flags places → AreBacked flags places
backed_of flags places are = record { told = λ k flagged. sym (are.told k) ∙ flagged; placed = are.placed }

pub backed_last : (flags : List Bool) (places : List ℕ) (p : ℕ) → AreBacked flags (places ++ p ∷ []) → p < length flags
backed_last flags places p are = (within_front flags places p are.placed).1

pub backed_less : (flags : List Bool) (places : List ℕ) (p : ℕ) → AreBacked flags (places ++ p ∷ []) → AreBacked (set flags p false) places
backed_less flags places p are = record { told = told; placed = placed }
  where
    told : (k : ℤ) → get_or (set flags p false) (place_of k) false ≡ true → is_among k (literals_of places) ≡ true
    told k flagged =
        ⊎_elim
        (λ equal.
        let e : place_of k ≡ p = eqb-true (place_of k) p equal in
        let off : get_or (set flags p false) (place_of k) false ≡ false =
        subst (λ x. get_or (set flags p false) x false ≡ false) (sym e) (get_or-set_same flags p false false (within_front flags places p are.placed).1) in
        absurd (let never : true ≡ false = sym flagged ∙ off in cc))
        (λ other.
        let apart : place_of k ≡ p → ⊥ = λ e. absurd (let t = eq-eqb (place_of k) p e in cc) in
        sym (among_before k (literals_of places) (literal_of p) (λ e. apart (ap place_of e ∙ place_back p)))
        ∙ sym (ap (is_among k) (literals_more places p))
        ∙ are.told k (sym (get_or-set_other flags p (place_of k) false false apart) ∙ flagged))
        (cases_Bool (nat_eq (place_of k) p))

    placed : AllByRecursion (λ place. place < length (set flags p false)) places
    placed =
        within_more flags (set flags p false) places (subst (λ n. length flags ≤ n) (sym (length-set flags p false)) (omega arith)) (within_front flags places p are.placed).0

-- where none is left, nothing is flagged
pub marked_none : (flags : List Bool) → AreBacked flags [] → AreMarked flags []
marked_none flags are = record {
  told = λ k. ⊎_elim (λ on. absurd (let never = are.told k on in cc)) (λ off. off) (cases_Bool (get_or flags (place_of k) false));
  placed = tt;
}
