-- The only list of sizes that passes a test, and where there is none or more than one.
use Rattle.std.proofs.Common.{◌≡◌, refl, ℕ, Bool, true, false, List, [], ◌∷◌, length, filter, Some, None, sym, ap, ◌∙◌, subst, cond}
use Rattle.std.specs.Prelude.{◌&&◌}
use Rattle.std.specs.Cmp.Lexicographic.{pointwise}
use Rattle.std.specs.List.{AllByRecursion, find}
use Rattle.std.proofs.lemmas.Bool.{and_from, and_parts}
use Rattle.std.proofs.lemmas.Option.{none-some, same_Some}
use Rattle.nir_ops.specs.declared.width.Width.{Width}
use Rattle.op_eval.specs.Calls.{same_width}
use Rattle.op_eval.specs.Sizes.{same_widths-refl, same_widths-same}
use Rattle.rule_term.specs.OneTyping.{IsOnly, only_typing, width_lists-length}
use Rattle.rule_term.specs.Typings.{width_lists}
use Rattle.rule_term.proofs.ReplaceFirst.{IsFirst, find-filter, first_found, not_after, not_after-refl}
use Rattle.law_derive.specs.Derivations.{only}

-- where one passes, and no other of its length, it is the only one
pub only_one : (p : List Width → Bool) (list : List Width) (n : ℕ) → length list ≡ n → IsOnly p list → only (filter p (width_lists n)) ≡ Some list
only_one p list n long is = ap (λ k. only (filter p (width_lists k))) (sym long) ∙ ap only (only_typing p list is)

-- what is left passes
kept_one : (n : ℕ) (p : List Width → Bool) (list : List Width) (kept : List (List Width)) (b : Bool) → p list ≡ b → length list ≡ n → AllByRecursion (λ l. (length l ≡ n) × (p l ≡ true)) kept → AllByRecursion (λ l. (length l ≡ n) × (p l ≡ true)) (cond b (list ∷ kept) kept)
kept_one n p list kept true is long all = ((long, is), all)
kept_one n p list kept false is long all = all

kept : (n : ℕ) (p : List Width → Bool) (lists : List (List Width)) → AllByRecursion (λ l. length l ≡ n) lists → AllByRecursion (λ l. (length l ≡ n) × (p l ≡ true)) (filter p lists)
kept n p [] all = tt
kept n p (list ∷ lists) all = kept_one n p list (filter p lists) (p list) refl all.0 (kept n p lists all.1)

-- what passes is found among what is left
module _ (p : List Width → Bool) (other : List Width) (passes : p other ≡ true) where
  abbrev is_other : List Width → Bool
  is_other list = p list && pointwise same_width list other

  first_other : IsFirst is_other other
  first_other = record {
    passes = and_from (p other) (pointwise same_width other other) passes (same_widths-refl other);
    least = λ list long is.
        let same = same_widths-same list other (and_parts (p list) (pointwise same_width list other) is).1 in
        subst (λ (l : List Width). not_after other l ≡ true) (sym same) (not_after-refl other);
  }

  found_left : find (λ list. pointwise same_width list other) (filter p (width_lists (length other))) ≡ Some other
  found_left = find-filter p (λ list. pointwise same_width list other) (width_lists (length other)) ∙ first_found is_other other first_other

  alone_is : (list : List Width) (b : Bool) → cond b (Some list) None ≡ Some other → list ≡ other
  alone_is list true e = same_Some list other e
  alone_is list false e = absurd (none-some other e)

  pub alone_left : (list : List Width) → filter p (width_lists (length other)) ≡ list ∷ [] → list ≡ other
  alone_left list is = alone_is list (pointwise same_width list other) (sym (ap (find (λ l. pointwise same_width l other)) is) ∙ found_left)

-- another list of the length that passes
pub record Other (p : List Width → Bool) (list : List Width) : Type 0 where
  pub other : List Width
  pub long : length other ≡ length list
  pub passes : p other ≡ true
  pub differs : list ≡ other → ⊥

none_of : (p : List Width → Bool) (n : ℕ) → ((list : List Width) → length list ≡ n → p list ≡ true → Other p list)
    → (left : List (List Width)) → filter p (width_lists n) ≡ left → AllByRecursion (λ l. (length l ≡ n) × (p l ≡ true)) left → only left ≡ None
none_of p n more [] is all = refl
none_of p n more (list ∷ others ∷ rest) is all = refl
none_of p n more (list ∷ []) is all =
    let second = more list all.0.0 all.0.1 in
    let long : n ≡ length second.other = sym (second.long ∙ all.0.0) in
    absurd (second.differs (alone_left p second.other second.passes list (ap (λ k. filter p (width_lists k)) (sym long) ∙ is)))

-- where for each list that passes there is another, there is no only one
pub only_none : (p : List Width → Bool) (n : ℕ) → ((list : List Width) → length list ≡ n → p list ≡ true → Other p list) → only (filter p (width_lists n)) ≡ None
only_none p n more = none_of p n more (filter p (width_lists n)) refl (kept n p (width_lists n) (width_lists-length n))
