-- The sizes that are noted of the search side are those of the rule's variables.
use Rattle.std.proofs.Common.{◌≡◌, refl, ℕ, zero, suc, Bool, true, false, List, [], ◌∷◌, ◌≤◌, length, take, arith, Option, Some, None, sym, ap, ◌∙◌, subst, cond, ◌⊎◌, ⊎_elim, inl, inr, replicate}
use Rattle.std.specs.Prelude.{◌&&◌, ◌||◌, nat_eq, slice_get}
use Rattle.std.specs.List.{find, list_all}
use Rattle.std.specs.Option.{option_map, unwrap_or}
use Rattle.std.proofs.lemmas.Bool.{and_from, and_parts, eq-eqb, eqb-true, false_from_ne_true, false≢true, or_left, or_right}
use Rattle.std.proofs.lemmas.List.{length-take-le}
use Rattle.std.proofs.lemmas.Option.{none-some, same_Some}
use Rattle.list_laws.specs.OptionLaws.{between}
use Rattle.nir_ops.specs.declared.width.Width.{Width}
use Rattle.op_eval.specs.Calls.{same_width}
use Rattle.op_eval.specs.Sizes.{same_width-refl, same_width-same}
use Rattle.rule_term.specs.ReplaceLeast.{is_known, knows, noted, noted_one}
use Rattle.rule_term.specs.Formed.{IsFormed}
use Rattle.rule_term.specs.Rule.{Rule}
use Rattle.rule_term.specs.Typed.{IsTyped-from_is_typing}
use Rattle.rule_term.specs.Typings.{Occurrence, is_typing, occurrences, replace_part, search_part, size_of}
use Rattle.rule_term.proofs.ReplaceKnown.{Known, known_once, noted_known, one_noted, occurs, searched_noted}
use Rattle.rule_term.proofs.ReplaceTypings.{room}
use Rattle.law_derive.specs.Derivations.{Setting, has_size_of, standing}
use Rattle.law_derive.specs.ExprSizes.{KnowsSizes}

-- what is known was known before, or was noted
noted_only : (list : List Occurrence) (before after : Known) → noted list before ≡ Some after → (var : ℕ) (width : Width) → knows after var width ≡ true → (knows before var width ≡ true) ⊎ (occurs var width list ≡ true)
noted_only [] before after e var width h = inl (ap (λ k. knows k var width) (same_Some before after e) ∙ h)
noted_only (o ∷ rest) before after e var width h =
    let step = between (noted_one o.var o.width before) (noted rest) after e in
    let here = one_noted o.var o.width before step.middle step.before in
    ⊎_elim
    (λ known. ⊎_elim
    (λ old. inl old)
    (λ new. inr (or_left (nat_eq o.var var && same_width o.width width) (occurs var width rest)
    (and_from (nat_eq o.var var) (same_width o.width width) (eq-eqb o.var var (sym new.0)) (ap (same_width o.width) new.1 ∙ same_width-refl o.width))))
    (here.new var width known))
    (λ later. inr (or_right (nat_eq o.var var && same_width o.width width) (occurs var width rest) later))
    (noted_only rest step.middle after step.behind var width h)

-- nothing is known at first
nothing_known : (n i : ℕ) (w : Width) → is_known (slice_get (replicate n None) i) w ≡ false
nothing_known zero i w = refl
nothing_known (suc n) zero w = refl
nothing_known (suc n) (suc i) w = nothing_known n i w

-- the first occurrence of a variable, by which its size is told
first_here : (after : Known) (var : ℕ) (list : List Occurrence) (o : Occurrence) (found : Option Occurrence) (b : Bool) → nat_eq o.var var ≡ b → knows after o.var o.width ≡ true
    → ((p : Occurrence) → found ≡ Some p → (p.var ≡ var) × (knows after p.var p.width ≡ true)) → (p : Occurrence) → cond b (Some o) found ≡ Some p → (p.var ≡ var) × (knows after p.var p.width ≡ true)
first_here after var list o found true is known later p e =
    let same = same_Some o p e in
    (ap (λ x. x.var) (sym same) ∙ eqb-true o.var var is, subst (λ (x : Occurrence). knows after x.var x.width ≡ true) same known)
first_here after var list o found false is known later p e = later p e

first_known : (after : Known) (var : ℕ) (list : List Occurrence) → list_all (λ o. knows after o.var o.width) list ≡ true → (p : Occurrence) → find (λ o. nat_eq o.var var) list ≡ Some p → (p.var ≡ var) × (knows after p.var p.width ≡ true)
first_known after var [] all p e = absurd (none-some p e)
first_known after var (o ∷ list) all p e =
    let parts = and_parts (knows after o.var o.width) (list_all (λ o. knows after o.var o.width) list) all in
    first_here after var list o (find (λ o. nat_eq o.var var) list) (nat_eq o.var var) refl parts.0 (first_known after var list parts.1) p e

-- a variable that is not found does not occur
absent_step : (var : ℕ) (width : Width) (o : Occurrence) (list : List Occurrence) (b : Bool) → nat_eq o.var var ≡ b → (find (λ o. nat_eq o.var var) list ≡ None → occurs var width list ≡ false)
    → cond b (Some o) (find (λ o. nat_eq o.var var) list) ≡ None → occurs var width (o ∷ list) ≡ false
absent_step var width o list true is later e = absurd (none-some o (sym e))
absent_step var width o list false is later e = ap (λ c. (c && same_width o.width width) || occurs var width list) is ∙ later e

absent : (var : ℕ) (width : Width) (list : List Occurrence) → find (λ o. nat_eq o.var var) list ≡ None → occurs var width list ≡ false
absent var width [] e = refl
absent var width (o ∷ list) e = absent_step var width o list (nat_eq o.var var) refl (absent var width list) e

-- two tests of which each implies the other
same_tests : (a b : Bool) → (a ≡ true → b ≡ true) → (b ≡ true → a ≡ true) → a ≡ b
same_tests true b there back = sym (there refl)
same_tests false true there back = back refl
same_tests false false there back = refl

module _ (list : List Occurrence) (after : Known) (made : noted list (replicate 16 None) ≡ Some after) (var : ℕ) (width : Width) where
  occurring : knows after var width ≡ true → occurs var width list ≡ true
  occurring h = ⊎_elim
      (λ old. absurd (false≢true (sym (nothing_known 16 var width) ∙ old)))
      (λ there. there)
      (noted_only list (replicate 16 None) after made var width h)

  by_found : (found : Option Occurrence) → find (λ o. nat_eq o.var var) list ≡ found → knows after var width ≡ has_size_of (option_map (λ o. o.width) found) width
  by_found None is = false_from_ne_true (knows after var width) (λ h. false≢true (sym (absent var width list is) ∙ occurring h))
  by_found (Some p) is =
      let own = first_known after var list (noted_known list (replicate 16 None) after made).1 p is in
      let known : knows after var p.width ≡ true = ap (λ v. knows after v p.width) (sym own.0) ∙ own.1 in
      same_tests (knows after var width) (same_width p.width width)
      (λ h. ap (same_width p.width) (sym (known_once (slice_get after var) p.width width known h)) ∙ same_width-refl p.width)
      (λ h. ap (knows after var) (sym (same_width-same p.width width h)) ∙ known)

-- the occurrences on the search side make the sizes of the variables known
pub noted_sizes : (at : Setting) (after : Known) → noted (standing at) (replicate 16 None) ≡ Some after → KnowsSizes at after
noted_sizes at after made var width = by_found (standing at) after made var width (find (λ o. nat_eq o.var var) (standing at)) refl

module _ (rule : Rule) (widths : List Width) (formed : IsFormed rule) (typed : is_typing rule widths ≡ true) where
  pub search_long : size_of rule.search ≤ length widths
  search_long = let count = (IsTyped-from_is_typing rule widths typed).count in omega arith

  -- at a typing the variables of the search side have one size each
  made_known : (after : Known) × (noted (occurrences rule.search (search_part rule widths)) (replicate 16 None) ≡ Some after)
  made_known =
      searched_noted (occurrences rule.search (search_part rule widths)) (occurrences rule.replace (replace_part rule widths)) 16 (IsTyped-from_is_typing rule widths typed).agree
      (room rule formed (search_part rule widths) (length-take-le (size_of rule.search) widths search_long))

  pub known_at : (n : ℕ) (made : Option Known) (known : Known) → n ≡ size_of rule.search → made ≡ noted (occurrences rule.search (take n widths)) (replicate 16 None) → known ≡ unwrap_or made (replicate 16 None) → KnowsSizes (record { rule = rule; widths = widths }) known
  known_at n made known count is chosen =
      let at : Setting = record { rule = rule; widths = widths } in
      let some : made ≡ Some made_known.0 = is ∙ ap (λ k. noted (occurrences rule.search (take k widths)) (replicate 16 None)) count ∙ made_known.1 in
      subst (KnowsSizes at) (sym (chosen ∙ ap (λ o. unwrap_or o (replicate 16 None)) some)) (noted_sizes at made_known.0 made_known.1)
