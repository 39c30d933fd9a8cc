-- All pairs of occurrences of a variable have one size where each has that of the next.
use Rattle.std.proofs.Common.{◌≡◌, refl, ℕ, Bool, true, false, not, ◌&&◌, ◌||◌, List, [], ◌∷◌, nat_eq, sym, ◌∙◌, ap, subst, ⊎_elim}
use Rattle.std.specs.List.{list_all}
use Rattle.std.proofs.lemmas.Bool.{or_left, or_right, eq-eqb, not_from_false}
use Rattle.nir_ops.specs.declared.width.Width.{Width}
use Rattle.op_eval.specs.Calls.{same_width}
use Rattle.op_eval.specs.Sizes.{same_width-same, same_width-from_equal}
use Rattle.size_laws.specs.Places.{all_hold}
use Rattle.size_laws.specs.ClassesLaws.{same_or_not}
use Rattle.size_laws.specs.ProductLaws.{same_truth}
use Rattle.size_laws.specs.NodeRulesLaws.{rules_with, pair_rules, all_hold-append}
use Rattle.size_laws.specs.LinksLaws.{later_rules, links_are_later, one_size, with_is}
use Rattle.size_laws.specs.NodeRules.{VarPlace, link_rules}

-- what is said of all pairs, where it is said of each with itself and both ways
module _ {A : Type 0} (r : A → A → Bool) (itself : (a : A) → r a a ≡ true) (both_ways : (a b : A) → r a b ≡ r b a) where
  abbrev triangle : List A → Bool
  triangle [] = true
  triangle (a ∷ list) = list_all (r a) list && triangle list

  turned : (a : A) (list : List A) → list_all (λ b. r b a) list ≡ list_all (r a) list
  turned a [] = refl
  turned a (b ∷ list) = ap (λ t. t && list_all (λ b. r b a) list) (both_ways b a) ∙ ap (λ t. r a b && t) (turned a list)

  shuffle : (a b c d : Bool) → (a && b && (c && d)) ≡ (a && c && (b && d))
  shuffle true true c d = refl
  shuffle true false true d = refl
  shuffle true false false d = refl
  shuffle false b c d = refl

  both : (p q : A → Bool) (list : List A) → list_all (λ b. p b && q b) list ≡ (list_all p list && list_all q list)
  both p q [] = refl
  both p q (b ∷ list) = ap (λ t. p b && q b && t) (both p q list) ∙ shuffle (p b) (q b) (list_all p list) (list_all q list)

  twice : (a b s : Bool) → a ≡ b → (a && (b && s)) ≡ (a && s)
  twice true b s e = ap (λ t. t && s) (sym e)
  twice false b s e = refl

  pub square : (list : List A) → list_all (λ a. list_all (r a) list) list ≡ triangle list
  square [] = refl
  square (a ∷ list) =
      ap (λ t. t && list_all (r a) list && list_all (λ b. r b a && list_all (r b) list) list) (itself a)
      ∙ ap (λ t. list_all (r a) list && t) (both (λ b. r b a) (λ b. list_all (r b) list) list)
      ∙ twice (list_all (r a) list) (list_all (λ b. r b a) list) (list_all (λ b. list_all (r b) list) list) (sym (turned a list))
      ∙ ap (λ t. list_all (r a) list && t) (square list)

module _ (w : ℕ → Width) where
  abbrev alike_places : VarPlace → VarPlace → Bool
  alike_places p q = not (nat_eq p.var q.var) || same_width (w p.place) (w q.place)

  one_way : (p q : VarPlace) → alike_places p q ≡ true → alike_places q p ≡ true
  one_way p q h = ⊎_elim
      (λ e.
      let width = subst (λ (t : Bool). (not t || same_width (w p.place) (w q.place)) ≡ true) (eq-eqb p.var q.var (sym e)) h in
      or_right (not (nat_eq q.var p.var)) (same_width (w q.place) (w p.place)) (same_width-from_equal (w q.place) (w p.place) (sym (same_width-same (w p.place) (w q.place) width))))
      (λ e. or_left (not (nat_eq q.var p.var)) (same_width (w q.place) (w p.place)) (not_from_false (nat_eq q.var p.var) e))
      (same_or_not q.var p.var)

  the_same : (p : VarPlace) → alike_places p p ≡ true
  the_same p = or_right (not (nat_eq p.var p.var)) (same_width (w p.place) (w p.place)) (same_width-from_equal (w p.place) (w p.place) refl)

  same_lists : (p : VarPlace) (list : List VarPlace) → list_all (alike_places p) list ≡ one_size w p.var (w p.place) list
  same_lists p [] = refl
  same_lists p (q ∷ rest) = ap (λ t. alike_places p q && t) (same_lists p rest)

  with_all : (p : VarPlace) (list : List VarPlace) → list_all (alike_places p) list ≡ all_hold w (rules_with p list)
  with_all p list = same_lists p list ∙ with_is w p list

  pairs_all : (all list : List VarPlace) → list_all (λ p. list_all (alike_places p) all) list ≡ all_hold w (pair_rules all list)
  pairs_all all [] = refl
  pairs_all all (p ∷ rest) =
      ap (λ t. t && list_all (λ p. list_all (alike_places p) all) rest) (with_all p all)
      ∙ ap (λ t. all_hold w (rules_with p all) && t) (pairs_all all rest)
      ∙ sym (all_hold-append w (rules_with p all) (pair_rules all rest))

  abbrev triangle_of : List VarPlace → Bool
  triangle_of list = triangle alike_places the_same (λ p q. same_truth (alike_places p q) (alike_places q p) (one_way p q) (one_way q p)) list

  later_all : (list : List VarPlace) → triangle_of list ≡ all_hold w (later_rules w list)
  later_all [] = refl
  later_all (p ∷ rest) =
      ap (λ t. t && triangle_of rest) (with_all p rest)
      ∙ ap (λ t. all_hold w (rules_with p rest) && t) (later_all rest)
      ∙ sym (all_hold-append w (rules_with p rest) (later_rules w rest))

  pub pairs_are_links : (list : List VarPlace) → all_hold w (pair_rules list list) ≡ all_hold w (link_rules list)
  pairs_are_links list =
      sym (pairs_all list list)
      ∙ square alike_places the_same (λ p q. same_truth (alike_places p q) (alike_places q p) (one_way p q) (one_way q p)) list
      ∙ later_all list
      ∙ sym (links_are_later w list)
