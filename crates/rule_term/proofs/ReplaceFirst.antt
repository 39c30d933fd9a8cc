-- The first of the lists of sizes that pass a test is the one that no other stands before in lexicographic order.
use Rattle.op_eval.specs.Calls.{same_width}
use Rattle.op_eval.specs.Sizes.{same_width-refl}
use Rattle.std.specs.Prelude.{◌≡◌, refl, ◌<◌, ℕ, suc, Bool, true, false, ◌&&◌, ◌||◌, Option, Some, None, List, [], ◌∷◌, ◌++◌, filter, length, cond, nat_lt}
use Rattle.std.proofs.Common.{◌∙◌, ap, sym, arith, ⊎_elim}
use Rattle.std.proofs.lemmas.Bool.{and_parts, and_from, or_cases, or_left, or_right, ltb-true, lt-ltb, eqb-true}
use Rattle.std.specs.List.{AllByRecursion, find}
use Rattle.std.specs.Option.{option_map}
use Rattle.std.proofs.lemmas.Option.{none-some}
use Rattle.nir_ops.specs.declared.width.Width.{Width}
use Rattle.nir_ops.specs.declared.width.Width.TheVariants.{W1, W8, W16, W32, W64}
use Rattle.nir_ops.specs.Width.{width_bits}
use Rattle.rule_term.specs.OneTyping.{begun, width_lists-length}
use Rattle.rule_term.specs.Typings.{first_of, width_lists}

-- a list does not stand behind another in lexicographic order
abbrev pub not_after : List Width → List Width → Bool
not_after [] others = true
not_after (x ∷ xs) [] = false
not_after (x ∷ xs) (y ∷ ys) = nat_lt (width_bits x) (width_bits y) || (same_width x y && not_after xs ys)

pub not_after-refl : (xs : List Width) → not_after xs xs ≡ true
not_after-refl [] = refl
not_after-refl (x ∷ xs) = or_right (nat_lt (width_bits x) (width_bits x)) (same_width x x && not_after xs xs) (and_from (same_width x x) (not_after xs xs) (same_width-refl x) (not_after-refl xs))

pub not_after-append : (a b c d : List Width) → length a ≡ length b → not_after a b ≡ true → not_after c d ≡ true → not_after (a ++ c) (b ++ d) ≡ true
not_after-append [] [] c d long first second = second
not_after-append [] (y ∷ b) c d long first second = absurd (omega arith)
not_after-append (x ∷ a) [] c d long first second = absurd (omega arith)
not_after-append (x ∷ a) (y ∷ b) c d long first second =
    ⊎_elim
    (λ less. or_left (nat_lt (width_bits x) (width_bits y)) (same_width x y && not_after (a ++ c) (b ++ d)) less)
    (λ same.
    let parts = and_parts (same_width x y) (not_after a b) same in
    or_right (nat_lt (width_bits x) (width_bits y)) (same_width x y && not_after (a ++ c) (b ++ d))
    (and_from (same_width x y) (not_after (a ++ c) (b ++ d)) parts.0 (not_after-append a b c d (omega arith) parts.1 second)))
    (or_cases (nat_lt (width_bits x) (width_bits y)) (same_width x y && not_after a b) first)

pub not_after-first : (a b : List Width) → 0 < length a → 0 < length b → width_bits (first_of a) < width_bits (first_of b) → not_after a b ≡ true
not_after-first [] b some other less = absurd (omega arith)
not_after-first (x ∷ a) [] some other less = absurd (omega arith)
not_after-first (x ∷ a) (y ∷ b) some other less = or_left (nat_lt (width_bits x) (width_bits y)) (same_width x y && not_after a b) (lt-ltb (width_bits x) (width_bits y) less)

-- a list passes, and no other of its length that passes stands before it
pub record IsFirst (p : List Width → Bool) (list : List Width) : Type 0 where
  pub passes : p list ≡ true
  pub least : (other : List Width) → length other ≡ length list → p other ≡ true → not_after list other ≡ true

-- what is found in two lists, and among the lists that begin with a size
find_more : (p : List Width → Bool) (a more : List (List Width)) (x list : List Width) (b : Bool) → (find p a ≡ Some list → find p (a ++ more) ≡ Some list) → cond b (Some x) (find p a) ≡ Some list → cond b (Some x) (find p (a ++ more)) ≡ Some list
find_more p a more x list true later e = e
find_more p a more x list false later e = later e

taken : (p : List Width → Bool) (a more : List (List Width)) (list : List Width) → find p a ≡ Some list → find p (a ++ more) ≡ Some list
taken p [] more list found = absurd (none-some list found)
taken p (x ∷ a) more list found = find_more p a more x list (p x) (taken p a more list) found

find_past : (p : List Width → Bool) (a more : List (List Width)) (x : List Width) (o : Option (List Width)) (b : Bool) → (find p a ≡ None → find p (a ++ more) ≡ o) → cond b (Some x) (find p a) ≡ None → cond b (Some x) (find p (a ++ more)) ≡ o
find_past p a more x o true later e = absurd (none-some x (sym e))
find_past p a more x o false later e = later e

passed : (p : List Width → Bool) (a more : List (List Width)) (o : Option (List Width)) → find p a ≡ None → find p more ≡ o → find p (a ++ more) ≡ o
passed p [] more o none found = found
passed p (x ∷ a) more o none found = find_past p a more x o (p x) (λ e. passed p a more o e found) none

map_cond : (width : Width) (list : List Width) (found : Option (List Width)) (others : Option (List Width)) (b : Bool) → others ≡ option_map (λ l. width ∷ l) found → cond b (Some (width ∷ list)) others ≡ option_map (λ l. width ∷ l) (cond b (Some list) found)
map_cond width list found others true e = refl
map_cond width list found others false e = e

find-begun : (p : List Width → Bool) (width : Width) (lists : List (List Width)) → find p (begun width lists) ≡ option_map (λ l. width ∷ l) (find (λ l. p (width ∷ l)) lists)
find-begun p width [] = refl
find-begun p width (list ∷ lists) = map_cond width list (find (λ l. p (width ∷ l)) lists) (find p (begun width lists)) (p (width ∷ list)) (find-begun p width lists)

none_there : (x : List Width) (o : Option (List Width)) (b : Bool) → (b ≡ true → ⊥) → o ≡ None → cond b (Some x) o ≡ None
none_there x o true never e = absurd (never refl)
none_there x o false never e = e

none_among : (n : ℕ) (p : List Width → Bool) → ((list : List Width) → length list ≡ n → p list ≡ true → ⊥) → (lists : List (List Width)) → AllByRecursion (λ list. length list ≡ n) lists → find p lists ≡ None
none_among n p never [] all = refl
none_among n p never (list ∷ lists) all = none_there list (find p lists) (p list) (never list all.0) (none_among n p never lists all.1)

-- nothing is found where nothing of this length passes
pub none_found : (n : ℕ) (p : List Width → Bool) → ((list : List Width) → length list ≡ n → p list ≡ true → ⊥) → find p (width_lists n) ≡ None
none_found n p never = none_among n p never (width_lists n) (width_lists-length n)

module _ (p : List Width → Bool) (width : Width) (list : List Width) (first : IsFirst p (width ∷ list)) where
  smaller_block : (other : Width) → width_bits other < width_bits width → find p (begun other (width_lists (length list))) ≡ None
  smaller_block other less =
      find-begun p other (width_lists (length list))
      ∙ ap (option_map (λ l. other ∷ l))
      (none_found (length list) (λ l. p (other ∷ l)) (λ l long passes.
      ⊎_elim
      (λ below. let low = ltb-true (width_bits width) (width_bits other) below in absurd (omega arith))
      (λ same. let e = eqb-true (width_bits width) (width_bits other) (and_parts (same_width width other) (not_after list l) same).0 in absurd (omega arith))
      (or_cases (nat_lt (width_bits width) (width_bits other)) (same_width width other && not_after list l) (first.least (other ∷ l) (ap suc long) passes))))

  inner_first : IsFirst (λ l. p (width ∷ l)) list
  inner_first = record {
    passes = first.passes;
    least = λ other long passes.
        ⊎_elim
        (λ below. let low = ltb-true (width_bits width) (width_bits width) below in absurd (omega arith))
        (λ same. (and_parts (same_width width width) (not_after list other) same).1)
        (or_cases (nat_lt (width_bits width) (width_bits width)) (same_width width width && not_after list other) (first.least (width ∷ other) (ap suc long) passes));
  }

  own_block : find (λ l. p (width ∷ l)) (width_lists (length list)) ≡ Some list → find p (begun width (width_lists (length list))) ≡ Some (width ∷ list)
  own_block e = find-begun p width (width_lists (length list)) ∙ ap (option_map (λ l. width ∷ l)) e

-- the first that passes is found
pub first_found : (p : List Width → Bool) (list : List Width) → IsFirst p list → find p (width_lists (length list)) ≡ Some list
unfolding width_lists
first_found p [] first = ap (λ b. cond b (Some []) None) first.passes
first_found p (W1 ∷ list) first =
    let own = own_block p W1 list first (first_found (λ l. p (W1 ∷ l)) list (inner_first p W1 list first)) in
    taken p (begun W1 (width_lists (length list))) _ (W1 ∷ list) own
first_found p (W8 ∷ list) first =
    let own = own_block p W8 list first (first_found (λ l. p (W8 ∷ l)) list (inner_first p W8 list first)) in
    passed p (begun W1 (width_lists (length list))) _ (Some (W8 ∷ list)) (smaller_block p W8 list first W1 (omega arith))
    (taken p (begun W8 (width_lists (length list))) _ (W8 ∷ list) own)
first_found p (W16 ∷ list) first =
    let own = own_block p W16 list first (first_found (λ l. p (W16 ∷ l)) list (inner_first p W16 list first)) in
    passed p (begun W1 (width_lists (length list))) _ (Some (W16 ∷ list)) (smaller_block p W16 list first W1 (omega arith))
    (passed p (begun W8 (width_lists (length list))) _ (Some (W16 ∷ list)) (smaller_block p W16 list first W8 (omega arith))
    (taken p (begun W16 (width_lists (length list))) _ (W16 ∷ list) own))
first_found p (W32 ∷ list) first =
    let own = own_block p W32 list first (first_found (λ l. p (W32 ∷ l)) list (inner_first p W32 list first)) in
    passed p (begun W1 (width_lists (length list))) _ (Some (W32 ∷ list)) (smaller_block p W32 list first W1 (omega arith))
    (passed p (begun W8 (width_lists (length list))) _ (Some (W32 ∷ list)) (smaller_block p W32 list first W8 (omega arith))
    (passed p (begun W16 (width_lists (length list))) _ (Some (W32 ∷ list)) (smaller_block p W32 list first W16 (omega arith))
    (taken p (begun W32 (width_lists (length list))) _ (W32 ∷ list) own)))
first_found p (W64 ∷ list) first =
    let own = own_block p W64 list first (first_found (λ l. p (W64 ∷ l)) list (inner_first p W64 list first)) in
    passed p (begun W1 (width_lists (length list))) _ (Some (W64 ∷ list)) (smaller_block p W64 list first W1 (omega arith))
    (passed p (begun W8 (width_lists (length list))) _ (Some (W64 ∷ list)) (smaller_block p W64 list first W8 (omega arith))
    (passed p (begun W16 (width_lists (length list))) _ (Some (W64 ∷ list)) (smaller_block p W64 list first W16 (omega arith))
    (passed p (begun W32 (width_lists (length list))) _ (Some (W64 ∷ list)) (smaller_block p W64 list first W32 (omega arith))
    (taken p (begun W64 (width_lists (length list))) _ (W64 ∷ list) own))))

-- what is found in a filtered list passes both tests
both : {A : Type 0} (q : A → Bool) (x : A) (kept : List A) (o : Option A) (b : Bool) → find q kept ≡ o → find q (cond b (x ∷ kept) kept) ≡ cond (b && q x) (Some x) o
both q x kept o true e = ap (λ o. cond (q x) (Some x) o) e
both q x kept o false e = e

pub find-filter : {A : Type 0} (p q : A → Bool) (xs : List A) → find q (filter p xs) ≡ find (λ x. p x && q x) xs
find-filter p q [] = refl
find-filter p q (x ∷ xs) = both q x (filter p xs) (find (λ x. p x && q x) xs) (p x) (find-filter p q xs)
