-- The first ambiguous node of a rule is the first at which two typings differ that agree on the search side.
use Rattle.std.specs.Prelude.{◌≡◌, refl, ◌+◌, ◌-◌, ◌<◌, ◌≤◌, ℕ, zero, suc, Bool, true, false, not, ◌&&◌, ◌||◌, cond, Option, Some, None, List, [], ◌∷◌, ◌++◌, length}
use Rattle.std.proofs.Common.{sym, ◌∙◌, ap, subst, arith, ⊎_elim}
use Rattle.std.specs.List.{AllByRecursion, find, list_any, range_with_len}
use Rattle.std.specs.Cmp.Lexicographic.{pointwise}
use Rattle.std.proofs.lemmas.Bool.{and_parts, and_from, cases_Bool, cases_eq, cases_lt, false≢true, not-true, not-false}
use Rattle.std.proofs.lemmas.List.{ext_get_or, get_or_past, length-drop, take-append-drop}
use Rattle.nir_ops.specs.declared.width.Width.{Width}
use Rattle.nir_ops.specs.declared.width.Width.TheVariants.{W1}
use Rattle.op_eval.specs.Calls.{same_width}
use Rattle.op_eval.specs.Sizes.{same_width-same, same_width-from_equal, same_widths-refl, same_widths-same}
use Rattle.rule_term.specs.Rule.{Rule}
use Rattle.rule_term.specs.Typed.{IsTyped-from_is_typing}
use Rattle.rule_term.specs.Typings.{is_typing, replace_part, search_part, size_of, typings}
use Rattle.size_laws.specs.Ambiguous.{IsAmbiguousAt, IsFirstAmbiguous, IsDefinite, differ_at, is_ambiguous_at, ambiguous_node}
use Rattle.size_laws.specs.MembersLaws.{each_typing, all_typings}
use Rattle.size_laws.specs.Places.{at}

-- one of a list passes, or none does
none_passes : {A : Type 0} (test : A → Bool) (xs : List A) → list_any test xs ≡ false → AllByRecursion (λ x. test x ≡ false) xs
none_passes test [] none = tt
none_passes test (x ∷ xs) none = ⊎_elim
    (λ e. absurd (false≢true (sym none ∙ ap (λ b. b || list_any test xs) e)))
    (λ e. (e, none_passes test xs (ap (λ b. b || list_any test xs) (sym e) ∙ none)))
    (cases_Bool (test x))

pub record Passes {A : Type 0} (P : A → Type 0) (test : A → Bool) : Type 0 where
  pub item : A
  pub is : P item
  pub passes : test item ≡ true

one_passes : {A : Type 0} (P : A → Type 0) (test : A → Bool) (xs : List A) → AllByRecursion P xs → list_any test xs ≡ true → Passes P test
one_passes P test [] all some = absurd (false≢true some)
one_passes P test (x ∷ xs) all some = ⊎_elim
    (λ e. record { item = x; is = all.0; passes = e })
    (λ e. one_passes P test xs all.1 (ap (λ b. b || list_any test xs) (sym e) ∙ some))
    (cases_Bool (test x))

module _ (rule : Rule) where
  are_typings : AllByRecursion (λ widths. is_typing rule widths ≡ true) (typings rule)
  are_typings = all_typings rule (λ widths. is_typing rule widths ≡ true) (λ widths typing. typing)

  -- what some typing passes, one among the list does
  pub some_typing : (test : List Width → Bool) (widths : List Width) → is_typing rule widths ≡ true → test widths ≡ true → list_any test (typings rule) ≡ true
  some_typing test widths typing passes = ⊎_elim
      (λ e. e)
      (λ e. absurd (false≢true (sym (each_typing rule (λ list. test list ≡ false) (none_passes test (typings rule) e) widths typing) ∙ passes)))
      (cases_Bool (list_any test (typings rule)))

  pub typing_of : (test : List Width → Bool) → list_any test (typings rule) ≡ true → Passes (λ widths. is_typing rule widths ≡ true) test
  typing_of test some = one_passes (λ widths. is_typing rule widths ≡ true) test (typings rule) are_typings some

  differ_from : (node : ℕ) (one two : List Width) → differ_at rule node one two ≡ true → (search_part rule one ≡ search_part rule two) × (at (replace_part rule one) node ≡ at (replace_part rule two) node → ⊥)
  differ_from node one two h =
      let same = same_width (at (replace_part rule one) node) (at (replace_part rule two) node) in
      let parts = and_parts (pointwise same_width (search_part rule one) (search_part rule two)) (not same) h in (
        same_widths-same (search_part rule one) (search_part rule two) parts.0,
        λ e. false≢true (sym (not-true same parts.1) ∙ same_width-from_equal _ _ e),
      )

  to_differ : (node : ℕ) (one two : List Width) → search_part rule one ≡ search_part rule two → (at (replace_part rule one) node ≡ at (replace_part rule two) node → ⊥) → differ_at rule node one two ≡ true
  to_differ node one two agree differ =
      let same = same_width (at (replace_part rule one) node) (at (replace_part rule two) node) in
      and_from (pointwise same_width (search_part rule one) (search_part rule two)) (not same)
      (ap (pointwise same_width (search_part rule one)) (sym agree) ∙ same_widths-refl (search_part rule one))
      (⊎_elim (λ e. absurd (differ (same_width-same _ _ e))) (λ e. ap not e) (cases_Bool same))

  pub ambiguous_is : (node : ℕ) → is_ambiguous_at rule node ≡ true → IsAmbiguousAt rule node
  ambiguous_is node h =
      let one = typing_of (λ one. list_any (differ_at rule node one) (typings rule)) h in
      let two = typing_of (differ_at rule node one.item) one.passes in
      let both = differ_from node one.item two.item two.passes in
      record { one = one.item; two = two.item; one_typing = one.is; two_typing = two.is; agree = both.0; differ = both.1 }

  pub is_ambiguous : (node : ℕ) → IsAmbiguousAt rule node → is_ambiguous_at rule node ≡ true
  is_ambiguous node a =
      some_typing (λ one. list_any (differ_at rule node one) (typings rule)) a.one a.one_typing
      (some_typing (differ_at rule node a.one) a.two a.two_typing (to_differ node a.one a.two a.agree a.differ))

  replaced : (widths : List Width) → is_typing rule widths ≡ true → length (replace_part rule widths) ≡ size_of rule.replace
  replaced widths typing =
      let count = (IsTyped-from_is_typing rule widths typing).count in
      let all = length-drop (size_of rule.search) widths in
      omega (arith, count, all)

  -- it is a node of the replacement
  inside : (node : ℕ) → IsAmbiguousAt rule node → node < size_of rule.replace
  inside node a = ⊎_elim
      (λ less. less)
      (λ past.
      let one = replaced a.one a.one_typing in
      let two = replaced a.two a.two_typing in
      absurd (a.differ (get_or_past (replace_part rule a.one) node W1 (omega (arith, one, past)) ∙ sym (get_or_past (replace_part rule a.two) node W1 (omega (arith, two, past))))))
      (cases_lt node (size_of rule.replace))

-- the first number that passes
pub found_first : (test : ℕ → Bool) (from count k : ℕ) → find test (range_with_len from count) ≡ Some k → (from ≤ k) × (k < from + count) × (test k ≡ true) × ((j : ℕ) → from ≤ j → j < k → test j ≡ false)
found_first test from zero k found = cc
found_first test from (suc count) k found = ⊎_elim
    (λ e.
    let here : Some from ≡ Some k = ap (λ b. cond b (Some from) (find test (range_with_len (from + 1) count))) (sym e) ∙ found in
    let same : from ≡ k = cc in
    (omega (arith, same), omega (arith, same), ap test (sym same) ∙ e, λ j low high. absurd (omega (arith, low, high, same))))
    (λ e.
    let behind = found_first test (from + 1) count k (ap (λ b. cond b (Some from) (find test (range_with_len (from + 1) count))) (sym e) ∙ found) in (
      omega (arith, behind.0),
      omega (arith, behind.1),
      behind.2,
      λ j low high. ⊎_elim (λ same. ap test (sym same) ∙ e) (λ other. behind.3 j (omega (arith, low, other)) high) (cases_eq from j),
    ))
    (cases_Bool (test from))

pub find_first : (test : ℕ → Bool) (from count k : ℕ) → from ≤ k → k < from + count → test k ≡ true → ((j : ℕ) → from ≤ j → j < k → test j ≡ false) → find test (range_with_len from count) ≡ Some k
find_first test from zero k low high passes before = absurd (omega (arith, low, high))
find_first test from (suc count) k low high passes before = ⊎_elim
    (λ same.
    ap (λ b. cond b (Some from) (find test (range_with_len (from + 1) count))) (ap test same ∙ passes) ∙ ap Some same)
    (λ other.
    ap (λ b. cond b (Some from) (find test (range_with_len (from + 1) count))) (before from (omega arith) (omega (arith, low, other)))
    ∙ find_first test (from + 1) count k (omega (arith, low, other)) (omega (arith, high)) passes (λ j low high. before j (omega (arith, low)) high))
    (cases_eq from k)

pub none_found : (test : ℕ → Bool) (from count : ℕ) → find test (range_with_len from count) ≡ None → (k : ℕ) → from ≤ k → k < from + count → test k ≡ false
none_found test from zero none k low high = absurd (omega (arith, low, high))
none_found test from (suc count) none k low high = ⊎_elim
    (λ e.
    let here : Some from ≡ None = ap (λ b. cond b (Some from) (find test (range_with_len (from + 1) count))) (sym e) ∙ none in
    cc)
    (λ e.
    ⊎_elim (λ same. ap test (sym same) ∙ e)
    (λ other. none_found test (from + 1) count (ap (λ b. cond b (Some from) (find test (range_with_len (from + 1) count))) (sym e) ∙ none) k (omega (arith, low, other)) (omega (arith, high)))
    (cases_eq from k))
    (cases_Bool (test from))

pub find_none : (test : ℕ → Bool) (from count : ℕ) → ((k : ℕ) → from ≤ k → k < from + count → test k ≡ false) → find test (range_with_len from count) ≡ None
find_none test from zero none = refl
find_none test from (suc count) none =
    ap (λ b. cond b (Some from) (find test (range_with_len (from + 1) count))) (none from (omega arith) (omega arith))
    ∙ find_none test (from + 1) count (λ k low high. none k (omega (arith, low)) (omega (arith, high)))

-- so the definition tells what it is to tell
pub first_is_ambiguous : (rule : Rule) (node : ℕ) → ambiguous_node rule ≡ Some node → IsFirstAmbiguous rule node
unfolding ambiguous_node
first_is_ambiguous rule node found =
    let first = found_first (is_ambiguous_at rule) 0 (size_of rule.replace) node found in
    record {
      ambiguous = ambiguous_is rule node first.2;
      first = λ earlier less a. false≢true (sym (first.3 earlier (omega arith) less) ∙ is_ambiguous rule earlier a);
    }

pub ambiguous_is_first : (rule : Rule) (node : ℕ) → IsFirstAmbiguous rule node → ambiguous_node rule ≡ Some node
unfolding ambiguous_node
ambiguous_is_first rule node h =
    let within = inside rule node h.ambiguous in
    find_first (is_ambiguous_at rule) 0 (size_of rule.replace) node (omega arith) (omega (arith, within)) (is_ambiguous rule node h.ambiguous)
    (λ j low less. ⊎_elim (λ e. absurd (h.first j less (ambiguous_is rule j e))) (λ e. e) (cases_Bool (is_ambiguous_at rule j)))

pub definite_is_none : (rule : Rule) → IsDefinite rule → ambiguous_node rule ≡ None
unfolding ambiguous_node
definite_is_none rule definite =
    find_none (is_ambiguous_at rule) 0 (size_of rule.replace)
    (λ k low high. ⊎_elim
    (λ e.
    let a = ambiguous_is rule k e in
    absurd (a.differ (ap (λ l. at (replace_part rule l) k) (definite a.one a.two a.one_typing a.two_typing a.agree))))
    (λ e. e)
    (cases_Bool (is_ambiguous_at rule k)))

pub none_is_definite : (rule : Rule) → ambiguous_node rule ≡ None → IsDefinite rule
unfolding ambiguous_node
none_is_definite rule none one two one_typing two_typing agree =
    let a = replaced rule one one_typing in
    let b = replaced rule two two_typing in
    let parts : replace_part rule one ≡ replace_part rule two = ext_get_or W1 (replace_part rule one) (replace_part rule two) (a ∙ sym b)
    (λ node less. ⊎_elim
    (λ e. same_width-same _ _ e)
    (λ e.
    let differ : at (replace_part rule one) node ≡ at (replace_part rule two) node → ⊥ = λ same. false≢true (sym e ∙ same_width-from_equal _ _ same) in
    let here = is_ambiguous rule node (record { one = one; two = two; one_typing = one_typing; two_typing = two_typing; agree = agree; differ = differ }) in
    absurd (false≢true (sym (none_found (is_ambiguous_at rule) 0 (size_of rule.replace) none node (omega arith) (omega (arith, less, a))) ∙ here)))
    (cases_Bool (same_width (at (replace_part rule one) node) (at (replace_part rule two) node)))) in
    sym (take-append-drop (size_of rule.search) one)
    ∙ ap (λ l. l ++ replace_part rule one) agree
    ∙ ap (λ l. search_part rule two ++ l) parts
    ∙ take-append-drop (size_of rule.search) two
