-- What the size rules of the code ask, and the nodes that are variables.
use Rattle.std.specs.Prelude.{ℕ, false, cond, List, [], ◌∷◌, nat_eq}
use Rattle.size_laws.specs.Places as place
use Rattle.size_laws.specs.NodeRules.{VarPlace}
use Rattle.rule_term.specs.ReplaceLeast.{set_has}
use Rattle.size_infer.specs.declared.size_rule.SizeRule.{SizeRule}
use Rattle.size_infer.specs.declared.size_rule.SizeRule.TheVariants as code
use Rattle.size_infer.specs.declared.size_rule.Spot.{Spot}

-- what a rule of the code asks
abbrev pub meant : SizeRule → place.SizeRule
meant (code.Same one other) = place.Same one other
meant (code.Within p set) = place.Only p (set_has set)

-- that a node has no size
abbrev pub never : ℕ → List place.SizeRule
never p = place.Only p (λ width. false) ∷ []

-- a variable of a term without its condition
abbrev pub spot_of : VarPlace → Spot
spot_of p = record { var = p.var; place = p.place }

-- the next place of a variable, or its own
abbrev pub next_spot : ℕ → List Spot → ℕ → ℕ
next_spot v [] own = own
next_spot v (q ∷ rest) own = cond (nat_eq v q.var) q.place (next_spot v rest own)

-- each node that is a variable has the size of the next of the same variable
abbrev pub link_spots : List Spot → List place.SizeRule
link_spots [] = []
link_spots (p ∷ rest) = place.Same p.place (next_spot p.var rest p.place) ∷ link_spots rest
