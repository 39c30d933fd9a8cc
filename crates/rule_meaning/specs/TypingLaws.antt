-- The typing that a match picks: one of the rule's, whose sizes of the search side are those that were met.
use Rattle.std.specs.Prelude.{◌≡◌, refl, ◌+◌, Bool, true, false, List, [], ◌∷◌, filter, Some}
use Rattle.std.proofs.Common.{sym, ◌∙◌, ap, ap₂, ⊎_elim}
use Rattle.std.proofs.lemmas.Bool.{and_parts, cond-false, cond-true, false≢true, or_cases}
use Rattle.std.proofs.lemmas.Option.{none-some, same_Some}
use Rattle.std.specs.List.{find, list_any}
use Rattle.std.specs.Cmp.Lexicographic.{pointwise}
use Rattle.list_laws.specs.OptionLaws.{found_passes}
use Rattle.nir_ops.specs.declared.width.Width.{Width}
use Rattle.op_eval.specs.Calls.{same_width}
use Rattle.op_eval.specs.Sizes.{same_width-same}
use Rattle.rule_term.specs.Rule.{Rule}
use Rattle.rule_term.specs.Typings.{is_typing, search_part, size_of, typings, width_lists}
use Rattle.nir_search.specs.Match.{is_typed}
use Rattle.nir_search.specs.Steps.{typing_with}

-- sizes that are the same place by place are the same
pub same_lists : (a b : List Width) → pointwise same_width a b ≡ true → a ≡ b
same_lists [] [] h = refl
same_lists [] (y ∷ b) h = absurd (false≢true h)
same_lists (x ∷ a) [] h = absurd (false≢true h)
same_lists (x ∷ a) (y ∷ b) h = let parts = and_parts (same_width x y) (pointwise same_width a b) h in ap₂ (λ w l. w ∷ l) (same_width-same x y parts.0) (same_lists a b parts.1)

-- what any passes is found
any_found : {A : Type 0} (test : A → Bool) (list : List A) → list_any test list ≡ true → (a : A) × (find test list ≡ Some a)
any_found test [] h = absurd (false≢true h)
any_found test (a ∷ list) h = by_test (test a) refl (λ others. any_found test list others) where
  by_test : (here : Bool) → test a ≡ here → (list_any test list ≡ true → (b : _) × (find test list ≡ Some b)) → (b : _) × (find test (a ∷ list) ≡ Some b)
  by_test true is rest = (a, cond-true (test a) (Some a) (find test list) is)
  by_test false is rest =
      let more = rest (⊎_elim (λ own. absurd (false≢true (sym is ∙ own))) (λ others. others) (or_cases (test a) (list_any test list) h)) in
      (more.0, cond-false (test a) (Some a) (find test list) is ∙ more.1)

-- what is found among those that pass passes
found_filtered : {A : Type 0} (p q : A → Bool) (list : List A) (x : A) → find p (filter q list) ≡ Some x → q x ≡ true
found_filtered p q [] x h = absurd (none-some x h)
found_filtered p q (a ∷ list) x h = by_test (q a) refl (found_filtered p q list x) where
  inner : (test : Bool) → p a ≡ test → q a ≡ true → find p (a ∷ filter q list) ≡ Some x → (find p (filter q list) ≡ Some x → q x ≡ true) → q x ≡ true
  inner true is own found rest = ap q (sym (same_Some a x (sym (cond-true (p a) (Some a) (find p (filter q list)) is) ∙ found))) ∙ own
  inner false is own found rest = rest (sym (cond-false (p a) (Some a) (find p (filter q list)) is) ∙ found)

  by_test : (test : Bool) → q a ≡ test → (find p (filter q list) ≡ Some x → q x ≡ true) → q x ≡ true
  by_test true own rest = inner (p a) refl own (sym (ap (find p) (cond-true (q a) (a ∷ filter q list) (filter q list) own)) ∙ h) rest
  by_test false other rest = rest (sym (ap (find p) (cond-false (q a) (a ∷ filter q list) (filter q list) other)) ∙ h)

pub record IsPicked (rule : Rule) (sizes : List Width) : Type 0 where
  pub typing : List Width
  pub found : typing_with rule sizes ≡ Some typing
  pub is : is_typing rule typing ≡ true
  pub same : search_part rule typing ≡ sizes

pub typing_is : (rule : Rule) (sizes typing : List Width) → typing_with rule sizes ≡ Some typing → (is_typing rule typing ≡ true) × (search_part rule typing ≡ sizes)
unfolding typings
typing_is rule sizes typing found = (
  found_filtered (λ list. pointwise same_width (search_part rule list) sizes) (is_typing rule) (width_lists (size_of rule.search + size_of rule.replace)) typing found,
  same_lists (search_part rule typing) sizes (found_passes (λ list. pointwise same_width (search_part rule list) sizes) (typings rule) typing found),
)

pub picked : (rule : Rule) (sizes : List Width) → is_typed rule sizes ≡ true → IsPicked rule sizes
unfolding is_typed
picked rule sizes typed =
    let first = any_found (λ typing. pointwise same_width (search_part rule typing) sizes) (typings rule) typed in
    let own = typing_is rule sizes first.0 first.1 in
    record { typing = first.0; found = first.1; is = own.0; same = own.1 }
