-- The typings of a rule are the lists of sizes that its size rules allow: a product over classes of nodes.
use Rattle.std.proofs.Common.{◌≡◌, refl, ℕ, suc, ◌+◌, ◌≤◌, Bool, true, false, ◌&&◌, cond, Option, Some, None, List, [], ◌∷◌, ◌++◌, length, map, nat_eq, nat_lt, sym, ◌∙◌, ap, arith, get_or-drop, get_or-take}
use Rattle.std.specs.List.{list_all}
use Rattle.std.proofs.Math.Bool.{and_assoc}
use Rattle.std.proofs.lemmas.Bool.{and_parts, and_from, eq-eqb, lt-ltb}
use Rattle.std.proofs.lemmas.List.{map-append}
use Rattle.std.proofs.lemmas.List.Folds.{list_all-append}
use Rattle.nir_ops.specs.declared.op.Op.{Op}
use Rattle.nir_ops.specs.declared.width.Width.{Width}
use Rattle.nir_ops.specs.declared.width.Width.TheVariants.{W1}
use Rattle.nir_ops.specs.Opcodes.{op_info}
use Rattle.op_eval.specs.Calls.{same_width}
use Rattle.rule_term.specs.Terms.{Terms, Nil, VarThen, LitThen, AppThen}
use Rattle.rule_term.specs.Rule.{Rule}
use Rattle.rule_term.specs.Typings.{size_of, first_of, obeys, occurrences, agree, search_part, replace_part, is_typing, typings, width_lists}
use Rattle.rule_term.specs.OneTyping.{width_lists-length}
use Rattle.rule_term.specs.Formed.{IsFormed}
use Rattle.size_laws.specs.ThensLaws.{searches, replaces}
use Rattle.size_laws.specs.Places.{Same, at, all_hold, within, all_within, classes, allowed, product}
use Rattle.size_laws.specs.ProductLaws.{filter_same, solutions_are_product}
use Rattle.size_laws.specs.NodeRulesLaws.{all_hold-append, all_within-append, shown, Shows, obeys_holds, occurrences_placed, agree_holds, shows_first}
use Rattle.size_laws.specs.PairsLaws.{pairs_are_links}
use Rattle.size_laws.specs.NodeRules.{VarPlace, link_rules, linked_rules, next_place, node_count, op_rules, root_places, rule_places, rules_of, source_rule, source_rules, unsized_place, var_places}

five : (c s r o a s2 r2 o2 a2 : Bool) → s ≡ s2 → r ≡ r2 → o ≡ o2 → a ≡ a2 → (c && s && r && o && a) ≡ (c && (s2 && (r2 && (o2 && a2))))
five c s r o a s2 r2 o2 a2 es er eo ea =
    ap (λ t. c && t && r && o && a) es ∙ ap (λ t. c && s2 && t && o && a) er ∙ ap (λ t. c && s2 && r2 && t && a) eo ∙ ap (λ t. c && s2 && r2 && o2 && t) ea
    ∙ and_assoc (c && s2 && r2) o2 a2 ∙ and_assoc (c && s2) r2 (o2 && a2) ∙ and_assoc c s2 (r2 && (o2 && a2))

-- a typing is a list of so many sizes that obeys the size rules
module _ (rule : Rule) (searches : 1 ≤ size_of rule.search) (replaces : 1 ≤ size_of rule.replace) where
  module _ (widths : List Width) where
    shows_search : Shows (search_part rule widths) (at widths) 0 (size_of rule.search)
    shows_search i less = get_or-take (size_of rule.search) widths i W1 less ∙ ap (at widths) (let e : i ≡ 0 + i = omega arith in e)

    shows_replace : Shows (replace_part rule widths) (at widths) (size_of rule.search) (size_of rule.replace)
    shows_replace i less = get_or-drop (size_of rule.search) widths i W1

    all_agree : agree (occurrences rule.search (search_part rule widths) ++ occurrences rule.replace (replace_part rule widths)) ≡ all_hold (at widths) (link_rules (rule_places rule))
    all_agree =
        ap (λ l. agree (l ++ occurrences rule.replace (replace_part rule widths))) (occurrences_placed (at widths) rule.search 0 (search_part rule widths) shows_search)
        ∙ ap (λ l. agree (map (shown (at widths)) (var_places rule.search 0) ++ l)) (occurrences_placed (at widths) rule.replace (size_of rule.search) (replace_part rule widths) shows_replace)
        ∙ ap agree (sym (map-append (shown (at widths)) (var_places rule.search 0) (var_places rule.replace (size_of rule.search))))
        ∙ agree_holds (at widths) (rule_places rule) (rule_places rule)
        ∙ pairs_are_links (at widths) (rule_places rule)

    pub is_typing_holds : is_typing rule widths ≡ (nat_eq (length widths) (node_count rule) && all_hold (at widths) (linked_rules rule))
    unfolding is_typing linked_rules
    is_typing_holds =
        let w = at widths in
        let r1 = rules_of rule.search 0 in
        let r2 = rules_of rule.replace (size_of rule.search) in
        let r4 = link_rules (rule_places rule) in
        five (nat_eq (length widths) (node_count rule))
        (obeys rule.search (search_part rule widths)) (obeys rule.replace (replace_part rule widths))
        (same_width (first_of (search_part rule widths)) (first_of (replace_part rule widths)))
        (agree (occurrences rule.search (search_part rule widths) ++ occurrences rule.replace (replace_part rule widths)))
        (all_hold w r1) (all_hold w r2) (same_width (w 0) (w (size_of rule.search))) (all_hold w r4)
        (obeys_holds w rule.search 0 (search_part rule widths) shows_search)
        (obeys_holds w rule.replace (size_of rule.search) (replace_part rule widths) shows_replace)
        (ap (λ x. same_width x (first_of (replace_part rule widths))) (shows_first w (search_part rule widths) 0 (size_of rule.search) shows_search searches)
        ∙ ap (λ x. same_width (w 0) x) (shows_first w (replace_part rule widths) (size_of rule.search) (size_of rule.replace) shows_replace replaces))
        all_agree
        ∙ ap (λ t. nat_eq (length widths) (node_count rule) && t)
        (ap (λ t. all_hold w r1 && t) (sym (all_hold-append w r2 (Same 0 (size_of rule.search) ∷ r4))) ∙ sym (all_hold-append w r1 (r2 ++ (Same 0 (size_of rule.search) ∷ r4))))

-- the rules name nodes of the rule
sources_within : {I : Type 0} (get : I → Option Width) (n u : ℕ) (inputs : List I) (places : List ℕ) → nat_lt u n ≡ true → list_all (λ p. nat_lt p n) places ≡ true → all_within n (source_rules get u inputs places) ≡ true
sources_within get n u [] [] hu hp = refl
sources_within get n u [] (p ∷ places) hu hp = and_from (nat_lt u n) true hu refl
sources_within get n u (input ∷ inputs) [] hu hp = and_from (nat_lt u n) true hu refl
sources_within get n u (input ∷ inputs) (p ∷ places) hu hp =
    let parts = and_parts (nat_lt p n) (list_all (λ p. nat_lt p n) places) hp in
    and_from (within n (source_rule u (get input) p)) (all_within n (source_rules get u inputs places))
    (elim (get input) as (λ o. within n (source_rule u o p) ≡ true) [ None ↦ and_from (nat_lt u n) (nat_lt p n) hu parts.0 | Some size ↦ parts.0 ])
    (sources_within get n u inputs places hu parts.1)

unsized_within : (out : Option Width) (n k : ℕ) (places : List ℕ) → nat_lt k n ≡ true → list_all (λ p. nat_lt p n) places ≡ true → nat_lt (unsized_place out k places) n ≡ true
unsized_within None n k places hk hp = hk
unsized_within (Some size) n k [] hk hp = hk
unsized_within (Some size) n k (p ∷ places) hk hp = (and_parts (nat_lt p n) (list_all (λ p. nat_lt p n) places) hp).0

op_within : (op : Op) (n k : ℕ) (places : List ℕ) → nat_lt k n ≡ true → list_all (λ p. nat_lt p n) places ≡ true → all_within n (op_rules op k places) ≡ true
op_within op n k places hk hp =
    let u = unsized_within (op_info op).out.size n k places hk hp in
    let s = sources_within (λ input. input.kind.size) n (unsized_place (op_info op).out.size k places) (op_info op).inputs places u hp in
    and_from (nat_lt (unsized_place (op_info op).out.size k places) n) (nat_lt k n && all_within n (source_rules (λ input. input.kind.size) (unsized_place (op_info op).out.size k places) (op_info op).inputs places)) u
    (and_from (nat_lt k n) (all_within n (source_rules (λ input. input.kind.size) (unsized_place (op_info op).out.size k places) (op_info op).inputs places)) hk s)

roots_within : (n : ℕ) (terms : Terms) (k : ℕ) → k + size_of terms ≤ n → list_all (λ p. nat_lt p n) (root_places terms k) ≡ true
roots_within n Nil k fit = refl
roots_within n (VarThen var constant size cond rest) k fit = and_from (nat_lt k n) (list_all (λ p. nat_lt p n) (root_places rest (k + 1))) (lt-ltb k n (omega arith)) (roots_within n rest (k + 1) (omega arith))
roots_within n (LitThen value boolean rest) k fit = and_from (nat_lt k n) (list_all (λ p. nat_lt p n) (root_places rest (k + 1))) (lt-ltb k n (omega arith)) (roots_within n rest (k + 1) (omega arith))
roots_within n (AppThen op size once args rest) k fit = and_from (nat_lt k n) (list_all (λ p. nat_lt p n) (root_places rest (k + suc (size_of args)))) (lt-ltb k n (omega arith)) (roots_within n rest (k + suc (size_of args)) (omega arith))

rules_within : (n : ℕ) (terms : Terms) (k : ℕ) → k + size_of terms ≤ n → all_within n (rules_of terms k) ≡ true
rules_within n Nil k fit = refl
rules_within n (VarThen var constant size cond rest) k fit = and_from (nat_lt k n) (all_within n (rules_of rest (k + 1))) (lt-ltb k n (omega arith)) (rules_within n rest (k + 1) (omega arith))
rules_within n (LitThen value boolean rest) k fit = and_from (nat_lt k n) (all_within n (rules_of rest (k + 1))) (lt-ltb k n (omega arith)) (rules_within n rest (k + 1) (omega arith))
rules_within n (AppThen op size once args rest) k fit =
    let here = lt-ltb k n (omega arith) in
    let r1 = op_rules op k (root_places args (k + 1)) in
    let r2 = rules_of args (k + 1) in
    let r3 = rules_of rest (k + suc (size_of args)) in
    and_from (nat_lt k n) (all_within n (r2 ++ (r1 ++ r3))) here
    (all_within-append n r2 (r1 ++ r3) (rules_within n args (k + 1) (omega arith))
    (all_within-append n r1 r3 (op_within op n k (root_places args (k + 1)) here (roots_within n args (k + 1) (omega arith))) (rules_within n rest (k + suc (size_of args)) (omega arith))))

places_within : (n : ℕ) (terms : Terms) (k : ℕ) → k + size_of terms ≤ n → list_all (λ p. nat_lt p.place n) (var_places terms k) ≡ true
places_within n Nil k fit = refl
places_within n (VarThen var constant size cond rest) k fit = and_from (nat_lt k n) (list_all (λ p. nat_lt p.place n) (var_places rest (k + 1))) (lt-ltb k n (omega arith)) (places_within n rest (k + 1) (omega arith))
places_within n (LitThen value boolean rest) k fit = places_within n rest (k + 1) (omega arith)
places_within n (AppThen op size once args rest) k fit =
    list_all-append (λ p. nat_lt p.place n) (var_places args (k + 1)) (var_places rest (k + suc (size_of args)))
    ∙ and_from (list_all (λ p. nat_lt p.place n) (var_places args (k + 1))) (list_all (λ p. nat_lt p.place n) (var_places rest (k + suc (size_of args))))
    (places_within n args (k + 1) (omega arith)) (places_within n rest (k + suc (size_of args)) (omega arith))

next_within : (n v own : ℕ) (list : List VarPlace) → nat_lt own n ≡ true → list_all (λ p. nat_lt p.place n) list ≡ true → nat_lt (next_place v list own) n ≡ true
next_within n v own [] ho h = ho
next_within n v own (q ∷ rest) ho h =
    let parts = and_parts (nat_lt q.place n) (list_all (λ p. nat_lt p.place n) rest) h in
    elim (nat_eq v q.var) as (λ t. nat_lt (cond t q.place (next_place v rest own)) n ≡ true) [ true ↦ parts.0 | false ↦ next_within n v own rest ho parts.1 ]

links_within : (n : ℕ) (list : List VarPlace) → list_all (λ p. nat_lt p.place n) list ≡ true → all_within n (link_rules list) ≡ true
links_within n [] h = refl
links_within n (p ∷ rest) h =
    let parts = and_parts (nat_lt p.place n) (list_all (λ p. nat_lt p.place n) rest) h in
    and_from (nat_lt p.place n && nat_lt (next_place p.var rest p.place) n) (all_within n (link_rules rest))
    (and_from (nat_lt p.place n) (nat_lt (next_place p.var rest p.place) n) parts.0 (next_within n p.var p.place rest parts.0 parts.1))
    (links_within n rest parts.1)

module _ (rule : Rule) (searches : 1 ≤ size_of rule.search) (replaces : 1 ≤ size_of rule.replace) where
  pub size_rules_within : all_within (node_count rule) (linked_rules rule) ≡ true
  unfolding linked_rules
  size_rules_within =
      let n = node_count rule in
      let here = places_within n rule.search 0 (omega arith) in
      let there = places_within n rule.replace (size_of rule.search) (omega arith) in
      let both = list_all-append (λ p. nat_lt p.place n) (var_places rule.search 0) (var_places rule.replace (size_of rule.search))
      ∙ and_from (list_all (λ p. nat_lt p.place n) (var_places rule.search 0)) (list_all (λ p. nat_lt p.place n) (var_places rule.replace (size_of rule.search))) here there in
      let r2 = rules_of rule.replace (size_of rule.search) in
      let r3 = Same 0 (size_of rule.search) ∷ link_rules (rule_places rule) in
      all_within-append n (rules_of rule.search 0) (r2 ++ r3) (rules_within n rule.search 0 (omega arith))
      (all_within-append n r2 r3 (rules_within n rule.replace (size_of rule.search) (omega arith))
      (and_from (nat_lt 0 n && nat_lt (size_of rule.search) n) (all_within n (link_rules (rule_places rule)))
      (and_from (nat_lt 0 n) (nat_lt (size_of rule.search) n) (lt-ltb 0 n (omega arith)) (lt-ltb (size_of rule.search) n (omega arith)))
      (links_within n (rule_places rule) both)))

  pub typings_are_product : typings rule ≡ product (classes (linked_rules rule)) (allowed (classes (linked_rules rule)) (linked_rules rule)) (node_count rule)
  unfolding typings
  typings_are_product =
      let n = node_count rule in
      filter_same n (is_typing rule) (λ widths. all_hold (at widths) (linked_rules rule))
      (λ widths count. is_typing_holds rule searches replaces widths ∙ ap (λ t. t && all_hold (at widths) (linked_rules rule)) (eq-eqb (length widths) n count))
      (width_lists n) (width_lists-length n)
      ∙ solutions_are_product n (linked_rules rule) size_rules_within

-- the lists that are built node by node, a node behind the others of its class with their size
abbrev pub TypingsAreProducts : Type 0
TypingsAreProducts =
    (rule : Rule) → IsFormed rule → typings rule ≡ product (classes (linked_rules rule)) (allowed (classes (linked_rules rule)) (linked_rules rule)) (node_count rule)

pub typings_are_products : TypingsAreProducts
typings_are_products rule formed = typings_are_product rule (searches rule formed) (replaces rule formed)
