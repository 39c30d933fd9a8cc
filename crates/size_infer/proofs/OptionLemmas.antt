-- What the numbers of sizes that classes leave to nodes say of the typings of a rule.
use Rattle.std.specs.List.{All, slice_index_or}
use Rattle.std.proofs.lemmas.List.Elements.{filter_passes}
use Rattle.std.proofs.Common.{◌≡◌, refl, ℕ, zero, suc, [], ◌∷◌, ◌+◌, ◌*◌, ◌<◌, ◌≤◌, true, false, Option, Some, None, List, length, ap, sym, subst, ◌∙◌, arith}
use Rattle.std.specs.Prelude.{MatchOption, is_some}
use Rattle.std.proofs.lemmas.Bool.{false≢true}
use Rattle.std.proofs.lemmas.List.{length-map}
use Rattle.rule_term.specs.FewNodes.{few_replaced, few_searched}
use Rattle.rule_term.specs.declared.typing.Typing.{Typing}
use Rattle.rule_term.specs.Rule.{Rule}
use Rattle.rule_term.specs.Typings.{is_typing, size_of, typings, width_lists}
use Rattle.size_laws.specs.Ambiguous.{IsDefinite, IsFirstAmbiguous}
use Rattle.size_laws.specs.NodeRules.{linked_rules, node_count}
use Rattle.size_laws.specs.OutcomesLaws.{HasOptions, NoneBefore, at_least_as_many, contradicts, count_to, definite, first_ambiguous, options, some_typing, typings_count}
use Rattle.size_laws.specs.Places.{allowed, choices, classes, count, product}
use Rattle.size_laws.specs.ThensLaws.{replaces, searches}
use Rattle.size_laws.specs.TypingsLaws.{typings_are_products}
use Rattle.size_infer.specs.FoundFor.{IsFoundFor}
use Rattle.size_infer.specs.Grown.{all_widths_of, widths_of}
use Rattle.size_infer.specs.Options.{EachHas, HasMore, HasNone, HasTwoFirst, NoneHasTwo, lists_of, options_of, product_in, set_at}
use Rattle.size_infer.specs.declared.classes.Classes.{Classes}
use Rattle.size_infer.specs.declared.found.Found.{Found}

pub lists_more : (found : Classes) (node counted more : ℕ) → counted ≡ lists_of found node → more ≡ options_of found node → counted * more ≡ lists_of found (node + 1)
lists_more found node counted more a b =
    let next : suc node ≡ node + 1 = omega arith in
    ap (λ x. x * more) a ∙ ap (λ y. lists_of found node * y) b ∙ ap (lists_of found) next

-- an option that is there, and one that is not
pub found_one : {A R : Type 0} (r : Option A) (P : Type 0) (Q : A → Type 0) → MatchOption r P Q → is_some r ≡ true → ((a : A) → Q a → R) → R
found_one None P Q m e k = absurd (false≢true e)
found_one (Some a) P Q m e k = k a m

pub found_none : {A : Type 0} (r : Option A) (P : Type 0) (Q : A → Type 0) → MatchOption r P Q → is_some r ≡ false → P
found_none None P Q m e = m
found_none (Some a) P Q m e = absurd (false≢true (sym e))

mapped : (lists : List Typing) (k : ℕ) (d : Typing) → slice_index_or (all_widths_of lists) k d.widths ≡ (slice_index_or lists k d).widths
mapped [] k d = refl
mapped (typing ∷ lists) zero d = refl
mapped (typing ∷ lists) (suc k) d = mapped lists k d

-- each list of the typings is a typing
pub each_typing : (rule : Rule) (lists : List Typing) → all_widths_of lists ≡ typings rule → All (λ typing. is_typing rule typing.widths ≡ true) lists
unfolding typings
each_typing rule lists e k d less =
    subst (λ w. is_typing rule w ≡ true) (mapped lists k d)
    (subst (λ l. All (λ w. is_typing rule w ≡ true) l) (sym e) (filter_passes (is_typing rule) (width_lists (size_of rule.search + size_of rule.replace))) k d.widths
    (let same = length-map lists widths_of in omega (arith, less, same)))

-- the classes of all that a rule asks
module _ (rule : Rule) (found : Found) (is : IsFoundFor rule found) where
  abbrev nodes : ℕ
  nodes = found.searched + found.replaced

  same_options : (node : ℕ) → options_of found.classes node ≡ options rule (searches rule is.formed) (replaces rule is.formed) node
  same_options node = ap (λ f. choices f (set_at found.classes.sets) node) is.first ∙ ap (λ ok. choices (classes (linked_rules rule)) ok node) is.sets

  same_lists : (node : ℕ) → lists_of found.classes node ≡ count_to rule (searches rule is.formed) (replaces rule is.formed) node
  same_lists node = ap (λ f. count f (set_at found.classes.sets) node) is.first ∙ ap (λ ok. count (classes (linked_rules rule)) ok node) is.sets

  same_nodes : nodes ≡ node_count rule
  same_nodes = let a = is.searched in let b = is.replaced in omega (arith, a, b)

  pub few_nodes : nodes ≤ 98
  few_nodes =
      let all = same_nodes in
      let few = few_searched rule is.formed in
      let more = few_replaced rule is.formed in
      omega (arith, all, few, more)

  pub none_for : (node : ℕ) → HasNone found.classes nodes node → typings rule ≡ []
  none_for node none =
      let inside = none.inside in
      let all = same_nodes in
      contradicts rule (searches rule is.formed) (replaces rule is.formed) node (omega (arith, inside, all)) (sym (same_options node) ∙ none.none)

  each : EachHas found.classes nodes → HasOptions rule (searches rule is.formed) (replaces rule is.formed)
  each has node less = let all = same_nodes in subst (λ x. 1 ≤ x) (same_options node) (has node (omega (arith, less, all)))

  same_behind : (node : ℕ) → options_of found.classes (found.searched + node) ≡ options rule (searches rule is.formed) (replaces rule is.formed) (size_of rule.search + node)
  same_behind node = ap (λ n. options_of found.classes (n + node)) is.searched ∙ same_options (size_of rule.search + node)

  none_before : (end : ℕ) → NoneHasTwo found.classes found.searched end → NoneBefore rule (searches rule is.formed) (replaces rule is.formed) end
  none_before end none node less = subst (λ x. x ≤ 1) (same_behind node) (none node less)

  pub first_two : EachHas found.classes nodes → (node : ℕ) → HasTwoFirst found.classes found.searched found.replaced node → IsFirstAmbiguous rule node
  first_two has node two =
      let inside = two.inside in
      let all = is.replaced in
      first_ambiguous rule (searches rule is.formed) (replaces rule is.formed) (each has) node (omega (arith, inside, all)) (subst (λ x. 2 ≤ x) (same_behind node) two.two) (none_before node two.before)

  pub no_two : NoneHasTwo found.classes found.searched found.replaced → IsDefinite rule
  no_two none = definite rule (searches rule is.formed) (replaces rule is.formed) (subst (NoneBefore rule (searches rule is.formed) (replaces rule is.formed)) is.replaced (none_before found.replaced none))

  pub more_lists : EachHas found.classes nodes → HasMore found.classes nodes 64 → 64 < length (typings rule)
  more_lists has more =
      let all = same_nodes in
      let inside = more.inside in
      let many = more.more in
      let same = same_lists more.node in
      let least = at_least_as_many rule (searches rule is.formed) (replaces rule is.formed) (each has) more.node (omega (arith, inside, all)) in
      omega (arith, many, same, least)

  pub all_typings : (lists : List Typing) → all_widths_of lists ≡ product_in found.classes nodes → all_widths_of lists ≡ typings rule
  all_typings lists e =
      e
      ∙ ap (λ f. product f (set_at found.classes.sets) nodes) is.first
      ∙ ap (λ ok. product (classes (linked_rules rule)) ok nodes) is.sets
      ∙ ap (product (classes (linked_rules rule)) (allowed (classes (linked_rules rule)) (linked_rules rule))) same_nodes
      ∙ sym (typings_are_products rule is.formed)

  pub as_many : (lists : List Typing) → all_widths_of lists ≡ product_in found.classes nodes → length lists ≡ length (typings rule)
  as_many lists e = sym (length-map lists widths_of) ∙ ap length (all_typings lists e)

  pub some_list : EachHas found.classes nodes → 1 ≤ length (typings rule)
  some_list has = some_typing rule (searches rule is.formed) (replaces rule is.formed) (each has)

  pub few_lists : lists_of found.classes nodes ≤ 64 → length (typings rule) ≤ 64
  few_lists few =
      let all = typings_count rule (searches rule is.formed) (replaces rule is.formed) in
      let same = ap (lists_of found.classes) same_nodes ∙ same_lists (node_count rule) in
      omega (arith, few, all, same)
