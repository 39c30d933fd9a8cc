-- The occurrences of a variable have one size where each has that of the next.
use Rattle.std.proofs.Common.{◌≡◌, refl, ℕ, Bool, true, false, not, ◌&&◌, ◌||◌, cond, List, [], ◌∷◌, ◌++◌, nat_eq, sym, ◌∙◌, ap, subst}
use Rattle.std.proofs.lemmas.Bool.{and_parts, and_from, eqb-true}
use Rattle.nir_ops.specs.declared.width.Width.{Width}
use Rattle.op_eval.specs.Calls.{same_width}
use Rattle.op_eval.specs.Sizes.{same_width-same, same_width-from_equal}
use Rattle.size_laws.specs.Places.{SizeRule, all_hold}
use Rattle.size_laws.specs.ProductLaws.{same_truth}
use Rattle.size_laws.specs.NodeRulesLaws.{rules_with, all_hold-append, alike_case}
use Rattle.size_laws.specs.NodeRules.{VarPlace, link_rules, next_place}

module _ (w : ℕ → Width) where
  -- those of a variable in a list have this size
  abbrev pub one_size : ℕ → Width → List VarPlace → Bool
  one_size v x [] = true
  one_size v x (q ∷ rest) = (not (nat_eq v q.var) || same_width x (w q.place)) && one_size v x rest

  pub with_is : (p : VarPlace) (list : List VarPlace) → one_size p.var (w p.place) list ≡ all_hold w (rules_with p list)
  with_is p [] = refl
  with_is p (q ∷ rest) = ap (λ t. (not (nat_eq p.var q.var) || same_width (w p.place) (w q.place)) && t) (with_is p rest) ∙ alike_case w p q (rules_with p rest) (nat_eq p.var q.var)

  -- linked: what stands behind the next has its size
  size_behind : (v : ℕ) (own : ℕ) (list : List VarPlace) → all_hold w (link_rules list) ≡ true → one_size v (w (next_place v list own)) list ≡ true
  size_behind v own [] h = refl
  size_behind v own (q ∷ rest) h =
      let parts = and_parts (same_width (w q.place) (w (next_place q.var rest q.place))) (all_hold w (link_rules rest)) h in
      let seen : (t : Bool) → nat_eq v q.var ≡ t → ((not t || same_width (w (cond t q.place (next_place v rest own))) (w q.place)) && one_size v (w (cond t q.place (next_place v rest own))) rest) ≡ true
      = λ t. elim t as (λ t. nat_eq v q.var ≡ t → ((not t || same_width (w (cond t q.place (next_place v rest own))) (w q.place)) && one_size v (w (cond t q.place (next_place v rest own))) rest) ≡ true) [
        | true ↦ λ e.
            let same = eqb-true v q.var e in
            and_from (same_width (w q.place) (w q.place)) (one_size v (w q.place) rest) (same_width-from_equal (w q.place) (w q.place) refl)
            (subst (λ x. one_size v x rest ≡ true) (sym (same_width-same (w q.place) (w (next_place q.var rest q.place)) parts.0))
            (subst (λ u. one_size u (w (next_place q.var rest q.place)) rest ≡ true) (sym same) (size_behind q.var q.place rest parts.1)))
        | false ↦ λ e. size_behind v own rest parts.1
      ] in
      seen (nat_eq v q.var) refl

  next_size : (v : ℕ) (own : ℕ) (list : List VarPlace) → one_size v (w own) list ≡ true → w own ≡ w (next_place v list own)
  next_size v own [] h = refl
  next_size v own (q ∷ rest) h =
      let parts = and_parts (not (nat_eq v q.var) || same_width (w own) (w q.place)) (one_size v (w own) rest) h in
      let seen : (t : Bool) → (not t || same_width (w own) (w q.place)) ≡ true → w own ≡ w (cond t q.place (next_place v rest own))
      = λ t. elim t as (λ t. (not t || same_width (w own) (w q.place)) ≡ true → w own ≡ w (cond t q.place (next_place v rest own))) [
        | true ↦ λ k. same_width-same (w own) (w q.place) k
        | false ↦ λ k. next_size v own rest parts.1
      ] in
      seen (nat_eq v q.var) parts.0

  -- the occurrences behind each have its size: half of all pairs
  abbrev pub later_rules : List VarPlace → List SizeRule
  later_rules [] = []
  later_rules (p ∷ rest) = rules_with p rest ++ later_rules rest

  links_from_later : (list : List VarPlace) → all_hold w (later_rules list) ≡ true → all_hold w (link_rules list) ≡ true
  links_from_later [] h = refl
  links_from_later (p ∷ rest) h =
      let parts = and_parts (all_hold w (rules_with p rest)) (all_hold w (later_rules rest)) (sym (all_hold-append w (rules_with p rest) (later_rules rest)) ∙ h) in
      and_from (same_width (w p.place) (w (next_place p.var rest p.place))) (all_hold w (link_rules rest))
      (same_width-from_equal (w p.place) (w (next_place p.var rest p.place)) (next_size p.var p.place rest (with_is p rest ∙ parts.0)))
      (links_from_later rest parts.1)

  later_from_links : (list : List VarPlace) → all_hold w (link_rules list) ≡ true → all_hold w (later_rules list) ≡ true
  later_from_links [] h = refl
  later_from_links (p ∷ rest) h =
      let parts = and_parts (same_width (w p.place) (w (next_place p.var rest p.place))) (all_hold w (link_rules rest)) h in
      let same = same_width-same (w p.place) (w (next_place p.var rest p.place)) parts.0 in
      all_hold-append w (rules_with p rest) (later_rules rest)
      ∙ and_from (all_hold w (rules_with p rest)) (all_hold w (later_rules rest))
      (sym (with_is p rest) ∙ subst (λ x. one_size p.var x rest ≡ true) (sym same) (size_behind p.var p.place rest parts.1))
      (later_from_links rest parts.1)

  pub links_are_later : (list : List VarPlace) → all_hold w (link_rules list) ≡ all_hold w (later_rules list)
  links_are_later list = same_truth (all_hold w (link_rules list)) (all_hold w (later_rules list)) (later_from_links list) (links_from_later list)
