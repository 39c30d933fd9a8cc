-- Numbers in order: that they differ, that they are below their bound, and that each number below it is one of them.
use Rattle.std.proofs.Common.{◌≡◌, ℕ, zero, suc, ◌+◌, ◌<◌, ◌≤◌, false, List, [], ◌∷◌, ◌++◌, map, nat_eq, sym, ap, ◌∙◌, append_assoc, inl, inr, eq-eqb, ne_eqb, arith, zero-add, append-nil}
use Rattle.std.specs.List.{AllByRecursion, IsDistinct, list_any, range_with_len}
use Rattle.std.proofs.lemmas.Bool.{cases_eq, or_left, or_right}
use Rattle.nir_ir.specs.Shaped.{IsOneOf}

-- what follows item by item
pub AllByRecursion-map : {X Y : Type 0} (P : X → Type 0) (Q : Y → Type 0) (f : X → Y) → ((x : X) → P x → Q (f x)) → (xs : List X) → AllByRecursion P xs → AllByRecursion Q (map f xs)
AllByRecursion-map P Q f follows [] all = tt
AllByRecursion-map P Q f follows (x ∷ xs) all = (follows x all.0, AllByRecursion-map P Q f follows xs all.1)

-- ---- numbers in order

range-differ : (a b n : ℕ) → a < b → AllByRecursion (λ y. nat_eq a y ≡ false) (range_with_len b n)
range-differ a b zero lt = tt
range-differ a b (suc n) lt = (ne_eqb a b (λ e. omega arith), range-differ a (b + 1) n (omega arith))

pub range-IsDistinct : (a n : ℕ) → IsDistinct nat_eq (range_with_len a n)
unfolding IsDistinct
range-IsDistinct a zero = tt
range-IsDistinct a (suc n) = (range-differ a (a + 1) n (omega arith), range-IsDistinct (a + 1) n)

pub range-below : (a n bound : ℕ) → a + n ≤ bound → AllByRecursion (λ v. v < bound) (range_with_len a n)
range-below a zero bound le = tt
range-below a (suc n) bound le = (omega arith, range-below (a + 1) n bound (omega arith))

pub range-IsOneOf : (a n v : ℕ) → a ≤ v → v < a + n → IsOneOf (range_with_len a n) v
range-IsOneOf a zero v le lt = absurd (omega arith)
range-IsOneOf a (suc n) v le lt =
    elim (cases_eq v a) [
      | inl same ↦ or_left (nat_eq v a) (list_any (nat_eq v) (range_with_len (a + 1) n)) (eq-eqb v a same)
      | inr other ↦ or_right (nat_eq v a) (list_any (nat_eq v) (range_with_len (a + 1) n)) (range-IsOneOf (a + 1) n v (omega arith) (omega arith))
    ]

range-last : (a n j : ℕ) → a + n ≡ j → range_with_len a (suc n) ≡ range_with_len a n ++ j ∷ []
range-last a zero j e = let same : a ≡ j = omega arith in ap (λ k. k ∷ []) same
range-last a (suc n) j e = ap (λ l. a ∷ l) (range-last (a + 1) n j (omega arith))

-- ---- parts that go on counting

-- the list goes on from one number to another
pub record Counts (from to : ℕ) (numbers : List ℕ) : Type 0 where
  pub on : range_with_len 0 from ++ numbers ≡ range_with_len 0 to

pub Counts-none : (from to : ℕ) → to ≡ from → Counts from to []
Counts-none from to same = record { on = append-nil (range_with_len 0 from) ∙ ap (range_with_len 0) (sym same) }

pub Counts-one : (from to : ℕ) → to ≡ from + 1 → Counts from to (from ∷ [])
Counts-one from to same =
    let on : suc from ≡ to = omega arith in
    record { on = sym (range-last 0 from from (zero-add from)) ∙ ap (range_with_len 0) on }

pub Counts-then : (a b c : ℕ) (xs ys : List ℕ) → Counts a b xs → Counts b c ys → Counts a c (xs ++ ys)
Counts-then a b c xs ys first second =
    record { on = sym (append_assoc (range_with_len 0 a) xs ys) ∙ ap (λ l. l ++ ys) first.on ∙ second.on }

-- from 0 on these are all of them
pub Counts-all : (to : ℕ) (numbers : List ℕ) → Counts 0 to numbers → numbers ≡ range_with_len 0 to
Counts-all to numbers counts = counts.on
