-- What a whole rule asks, and the links between the occurrences of its variables.
use Rattle.std.proofs.Common.{◌≡◌, refl, ℕ, ◌+◌, ◌-◌, cond, List, [], ◌∷◌, ◌++◌, map, nat_eq, ap, sym, ◌∙◌, append_assoc, true, arith}
use Rattle.std.proofs.lemmas.List.{map-append}
use Rattle.rule_term.specs.FewNodes.{few_replaced, few_searched}
use Rattle.rule_term.specs.Formed.{IsFormed}
use Rattle.rule_term.specs.Rule.{Rule}
use Rattle.rule_term.specs.Typings.{size_of}
use Rattle.size_laws.specs.Places as place
use Rattle.size_laws.specs.Places.{all_within}
use Rattle.size_laws.specs.StepsLaws.{all_within-more}
use Rattle.size_laws.specs.ThensLaws.{replaces, searches}
use Rattle.size_laws.specs.TypingsLaws.{size_rules_within}
use Rattle.size_laws.specs.NodeRules.{VarPlace, link_rules, linked_rules, next_place, node_count, rule_places, rules_of, var_places}
use Rattle.size_infer.specs.Meant.{link_spots, meant, next_spot, spot_of}
use Rattle.size_infer.specs.declared.size_rule.SizeRule.{SizeRule}
use Rattle.size_infer.specs.declared.size_rule.SizeRule.TheVariants as code
use Rattle.size_infer.specs.declared.size_rule.Spot.{Spot}
use Rattle.size_infer.proofs.SetLemmas.{pushed, twice}

next_spots : (v : ℕ) (list : List VarPlace) (own : ℕ) → next_spot v (map spot_of list) own ≡ next_place v list own
next_spots v [] own = refl
next_spots v (q ∷ rest) own = ap (cond (nat_eq v q.var) q.place) (next_spots v rest own)

links_spots : (list : List VarPlace) → link_spots (map spot_of list) ≡ link_rules list
links_spots [] = refl
links_spots (p ∷ rest) =
    ap (λ n. place.Same p.place n ∷ link_spots (map spot_of rest)) (next_spots p.var rest p.place)
    ∙ ap (λ l. place.Same p.place (next_place p.var rest p.place) ∷ l) (links_spots rest)

-- the two sides, the roots and the links are all that a rule asks
module _ (rule : Rule) (searched : ℕ) (is_searched : searched ≡ size_of rule.search) where
  pub all_spots : (first second : List Spot) → first ≡ map spot_of (var_places rule.search 0) → second ≡ first ++ map spot_of (var_places rule.replace searched) → second ≡ map spot_of (rule_places rule)
  all_spots first second e1 e2 =
      e2 ∙ ap (λ l. l ++ map spot_of (var_places rule.replace searched)) e1
      ∙ ap (λ n. map spot_of (var_places rule.search 0) ++ map spot_of (var_places rule.replace n)) is_searched
      ∙ sym (map-append spot_of (var_places rule.search 0) (var_places rule.replace (size_of rule.search)))

  pub all_asked : (first second third fourth : List SizeRule) (spots : List Spot)
      → map meant first ≡ rules_of rule.search 0
      → map meant second ≡ map meant first ++ rules_of rule.replace searched
      → third ≡ second ++ code.Same 0 searched ∷ []
      → map meant fourth ≡ map meant third ++ link_spots spots
      → spots ≡ map spot_of (rule_places rule)
      → map meant fourth ≡ linked_rules rule
  unfolding linked_rules
  all_asked first second third fourth spots e1 e2 e3 e4 e5 =
      let a = rules_of rule.search 0 in
      let both = e2 ∙ ap (λ l. l ++ rules_of rule.replace searched) e1 in
      let roots = pushed second third (code.Same 0 searched) (place.Same 0 searched) e3 refl in
      let three = twice a (map meant second) (map meant third) (rules_of rule.replace searched) (place.Same 0 searched ∷ []) both roots in
      let four = twice a (map meant third) (map meant fourth) (rules_of rule.replace searched ++ place.Same 0 searched ∷ []) (link_spots spots) three e4 in
      four
      ∙ ap (λ l. a ++ l) (append_assoc (rules_of rule.replace searched) (place.Same 0 searched ∷ []) (link_spots spots))
      ∙ ap (λ n. a ++ (rules_of rule.replace n ++ (place.Same 0 n ∷ link_spots spots))) is_searched
      ∙ ap (λ s. a ++ (rules_of rule.replace (size_of rule.search) ++ (place.Same 0 (size_of rule.search) ∷ link_spots s))) e5
      ∙ ap (λ l. a ++ (rules_of rule.replace (size_of rule.search) ++ (place.Same 0 (size_of rule.search) ∷ l))) (links_spots (rule_places rule))

-- the same, step by step as the code goes
pub asked_whole : (rule inside : Rule) → inside ≡ rule → (searched : ℕ) (none first second third fourth : List SizeRule) (no_spots early late : List Spot)
    → searched ≡ size_of inside.search → none ≡ [] → no_spots ≡ []
    → map meant first ≡ map meant none ++ rules_of inside.search 0
    → early ≡ no_spots ++ map spot_of (var_places inside.search 0)
    → map meant second ≡ map meant first ++ rules_of inside.replace searched
    → late ≡ early ++ map spot_of (var_places inside.replace searched)
    → third ≡ second ++ code.Same 0 searched ∷ []
    → map meant fourth ≡ map meant third ++ link_spots late
    → map meant fourth ≡ linked_rules rule
asked_whole rule inside same searched none first second third fourth no_spots early late is_searched is_none is_no_spots e1 s1 e2 s2 e3 e4 =
    all_asked inside searched is_searched first second third fourth late
    (e1 ∙ ap (λ l. map meant l ++ rules_of inside.search 0) is_none) e2 e3 e4
    (all_spots inside searched is_searched early late (s1 ∙ ap (λ l. l ++ map spot_of (var_places inside.search 0)) is_no_spots) s2)
    ∙ ap linked_rules same

-- all rules are over at most 98 nodes
pub within_all : (rule : Rule) → IsFormed rule → (rules : List place.SizeRule) → rules ≡ linked_rules rule → all_within 98 rules ≡ true
within_all rule formed rules e =
    let few = few_searched rule formed in
    let more = few_replaced rule formed in
    ap (all_within 98) e
    ∙ all_within-more (node_count rule) 98 (omega (arith, few, more)) (linked_rules rule) (size_rules_within rule (searches rule formed) (replaces rule formed))

-- the nodes of the sides, counted on the way
pub first_counted : (rule inside : Rule) → inside ≡ rule → (searched : ℕ) → searched ≡ 0 + size_of inside.search → searched ≡ size_of rule.search
first_counted rule inside same searched e = let counted : searched ≡ size_of inside.search = omega (arith, e) in counted ∙ ap (λ r. size_of r.search) same

pub second_counted : (rule inside : Rule) → inside ≡ rule → (searched nodes : ℕ) → nodes ≡ searched + size_of inside.replace → nodes - searched ≡ size_of rule.replace
second_counted rule inside same searched nodes e =
    let counted : nodes - searched ≡ size_of inside.replace = omega (arith, e) in
    counted ∙ ap (λ r. size_of r.replace) same
