-- What the choices of the classes say of the typings of a rule: none, two for one search side, or so many.
use Rattle.std.proofs.Common.{◌≡◌, refl, ℕ, ◌≤◌, ◌<◌, Bool, true, false, cond, List, [], ◌∷◌, length, filter, nat_eq, sym, ◌∙◌, ap, arith, get_or-take, get_or-drop, ◌-◌, ◌+◌, subst}
use Rattle.std.proofs.lemmas.Bool.{and_parts, and_from, eqb-true, eq-eqb, false≢true}
use Rattle.std.proofs.lemmas.List.{length-take, ext_get_or}
use Rattle.nir_ops.specs.declared.width.Width.{Width}
use Rattle.nir_ops.specs.declared.width.Width.TheVariants.{W1}
use Rattle.op_eval.specs.Calls.{same_width}
use Rattle.op_eval.specs.Sizes.{same_width-same, same_width-from_equal}
use Rattle.rule_term.specs.Rule.{Rule}
use Rattle.rule_term.specs.Typings.{size_of, search_part, is_typing, typings, width_lists}
use Rattle.size_laws.specs.Places.{at, all_hold, classes, allowed, choices, count}
use Rattle.size_laws.specs.TypingsLaws.{is_typing_holds, size_rules_within, typings_are_product}
use Rattle.size_laws.specs.ChoicesLaws.{product_length, count_none, count_some, count_more}
use Rattle.size_laws.specs.Ambiguous.{IsAmbiguousAt, IsFirstAmbiguous, IsDefinite}
use Rattle.size_laws.specs.DifferLaws.{Solves, Differ, class_differs, first_differs}
use Rattle.size_laws.specs.NodeRules.{linked_rules, node_count}

pub record Passing {A : Type 0} (p : A → Bool) : Type 0 where
  pub item : A
  pub passes : p item ≡ true

passing : {A : Type 0} (p : A → Bool) (list : List A) → 1 ≤ length (filter p list) → Passing p
passing p [] some = absurd (omega arith)
passing p (a ∷ list) some =
    let seen : (t : Bool) → p a ≡ t → 1 ≤ length (cond t (a ∷ filter p list) (filter p list)) → Passing p
    = λ t. elim t as (λ t. p a ≡ t → 1 ≤ length (cond t (a ∷ filter p list) (filter p list)) → Passing p) [
      | true ↦ λ e some. record { item = a; passes = e }
      | false ↦ λ e some. passing p list some
    ] in
    seen (p a) refl some

none_left : {A : Type 0} (list : List A) → length list ≡ 0 → list ≡ []
none_left [] e = refl
none_left (a ∷ list) e = absurd (omega (arith, e))

module _ (rule : Rule) (searches : 1 ≤ size_of rule.search) (replaces : 1 ≤ size_of rule.replace) where
  abbrev pub options : ℕ → ℕ
  options k = choices (classes (linked_rules rule)) (allowed (classes (linked_rules rule)) (linked_rules rule)) k

  abbrev pub count_to : ℕ → ℕ
  count_to k = count (classes (linked_rules rule)) (allowed (classes (linked_rules rule)) (linked_rules rule)) k

  abbrev pub HasOptions : Type 0
  HasOptions = (i : ℕ) → i < node_count rule → 1 ≤ options i

  -- their number
  pub typings_count : length (typings rule) ≡ count_to (node_count rule)
  typings_count = ap length (typings_are_product rule searches replaces) ∙ product_length (classes (linked_rules rule)) (allowed (classes (linked_rules rule)) (linked_rules rule)) (node_count rule)

  -- there is none
  pub contradicts : (k : ℕ) → k < node_count rule → options k ≡ 0 → typings rule ≡ []
  contradicts k less none = none_left (typings rule) (typings_count ∙ count_none (classes (linked_rules rule)) (allowed (classes (linked_rules rule)) (linked_rules rule)) (node_count rule) k less none)

  -- there is one
  pub some_typing : HasOptions → 1 ≤ length (typings rule)
  some_typing has = let e = typings_count in let c = count_some (classes (linked_rules rule)) (allowed (classes (linked_rules rule)) (linked_rules rule)) (node_count rule) has in omega (arith, e, c)

  -- as many as are counted on the way, or more
  pub at_least_as_many : HasOptions → (k : ℕ) → k ≤ node_count rule → count_to k ≤ length (typings rule)
  at_least_as_many has k less = let e = typings_count in let c = count_more (classes (linked_rules rule)) (allowed (classes (linked_rules rule)) (linked_rules rule)) (node_count rule) k has less in omega (arith, e, c)

  solves_from : (widths : List Width) → is_typing rule widths ≡ true → Solves (node_count rule) (linked_rules rule) widths
  solves_from widths h =
      let parts = and_parts (nat_eq (length widths) (node_count rule)) (all_hold (at widths) (linked_rules rule)) (sym (is_typing_holds rule searches replaces widths) ∙ h) in
      record { count = eqb-true (length widths) (node_count rule) parts.0; obeyed = parts.1 }

  typing_from : (widths : List Width) → Solves (node_count rule) (linked_rules rule) widths → is_typing rule widths ≡ true
  typing_from widths s = is_typing_holds rule searches replaces widths ∙ and_from (nat_eq (length widths) (node_count rule)) (all_hold (at widths) (linked_rules rule)) (eq-eqb (length widths) (node_count rule) s.count) s.obeyed

  one_typing : HasOptions → Passing (is_typing rule)
  unfolding typings
  one_typing has = passing (is_typing rule) (width_lists (node_count rule)) (some_typing has)

  to_differ : (k : ℕ) → IsAmbiguousAt rule k → Differ (node_count rule) (linked_rules rule) (size_of rule.search) (size_of rule.search + k)
  to_differ k a = record {
    one = a.one;
    two = a.two;
    one_solves = solves_from a.one a.one_typing;
    two_solves = solves_from a.two a.two_typing;
    agree = λ i less. sym (get_or-take (size_of rule.search) a.one i W1 less) ∙ ap (λ l. at l i) a.agree ∙ get_or-take (size_of rule.search) a.two i W1 less;
    differ = λ same. a.differ (get_or-drop (size_of rule.search) a.one k W1 ∙ same ∙ sym (get_or-drop (size_of rule.search) a.two k W1));
  }

  part_length : (widths : List Width) → length widths ≡ node_count rule → length (search_part rule widths) ≡ size_of rule.search
  part_length widths e = let t = length-take (size_of rule.search) widths in omega (arith, t, e)

  same_parts : (one two : List Width) → length (search_part rule one) ≡ size_of rule.search → length (search_part rule two) ≡ size_of rule.search
      → ((i : ℕ) → i < size_of rule.search → at one i ≡ at two i) → search_part rule one ≡ search_part rule two
  same_parts one two a b agree = ext_get_or W1 (search_part rule one) (search_part rule two) (a ∙ sym b)
      (λ i less. let l : i < size_of rule.search = omega (arith, a, less) in
      get_or-take (size_of rule.search) one i W1 l ∙ agree i l ∙ sym (get_or-take (size_of rule.search) two i W1 l))

  from_differ : (k : ℕ) → Differ (node_count rule) (linked_rules rule) (size_of rule.search) (size_of rule.search + k) → IsAmbiguousAt rule k
  from_differ k d = record {
    one = d.one;
    two = d.two;
    one_typing = typing_from d.one d.one_solves;
    two_typing = typing_from d.two d.two_solves;
    agree =
        let a = part_length d.one d.one_solves.count in
        let b = part_length d.two d.two_solves.count in
        same_parts d.one d.two a b d.agree;
    differ = λ same. d.differ (sym (get_or-drop (size_of rule.search) d.one k W1) ∙ same ∙ get_or-drop (size_of rule.search) d.two k W1);
  }

  -- the nodes of the replacement before one have no two sizes
  abbrev pub NoneBefore : ℕ → Type 0
  NoneBefore k = (i : ℕ) → i < k → options (size_of rule.search + i) ≤ 1

  none_from : (k : ℕ) → NoneBefore k → (i : ℕ) → size_of rule.search ≤ i → i < size_of rule.search + k → options i ≤ 1
  none_from k none i low less =
      let e : size_of rule.search + (i - size_of rule.search) ≡ i = omega (arith, low) in
      subst (λ j. options j ≤ 1) e (none (i - size_of rule.search) (omega (arith, low, less)))

  -- the first node of the replacement that has two sizes
  pub first_ambiguous : HasOptions → (k : ℕ) → k < size_of rule.replace → 2 ≤ options (size_of rule.search + k) → NoneBefore k → IsFirstAmbiguous rule k
  first_ambiguous has k less few none =
      let u = one_typing has in
      let h = size_rules_within rule searches replaces in
      let m = size_of rule.search in
      record {
        ambiguous = from_differ k (class_differs (node_count rule) (linked_rules rule) h u.item (solves_from u.item u.passes) m (m + k) (omega arith) (omega (arith, less)) few);
        first = λ j earlier a. first_differs (node_count rule) (linked_rules rule) h m (m + k) (none_from k none) (m + j) (omega (arith, earlier)) (to_differ j a);
      }

  -- no node of the replacement has two sizes
  pub definite : NoneBefore (size_of rule.replace) → IsDefinite rule
  definite none one two ha hb same =
      let a = solves_from one ha in
      let b = solves_from two hb in
      let counts : length one ≡ length two = a.count ∙ sym b.count in
      let m = size_of rule.search in
      let early : (i : ℕ) → i < m → at one i ≡ at two i = λ i less. sym (get_or-take m one i W1 less) ∙ ap (λ l. at l i) same ∙ get_or-take m two i W1 less in
      ext_get_or W1 one two counts (λ i less.
      let count = a.count in
      let seen : (t : Bool) → same_width (at one i) (at two i) ≡ t → at one i ≡ at two i = λ t. elim t as (λ t. same_width (at one i) (at two i) ≡ t → at one i ≡ at two i) [
        | true ↦ λ e. same_width-same (at one i) (at two i) e
        | false ↦ λ e. absurd (first_differs (node_count rule) (linked_rules rule) (size_rules_within rule searches replaces) m (m + size_of rule.replace) (none_from (size_of rule.replace) none) i (omega (arith, less, count)) (record {
          one = one;
          two = two;
          one_solves = a;
          two_solves = b;
          agree = early;
          differ = λ alike. false≢true (sym e ∙ same_width-from_equal (at one i) (at two i) alike);
        }))
      ] in
      seen (same_width (at one i) (at two i)) refl)
