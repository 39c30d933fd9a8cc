-- The variants of a rule in order, each as the chain of its search side (the variants of nir_algebraic of Mesa's NIR).
use Rattle.std.specs.Prelude.{List, [], ◌∷◌, map}
use Rattle.std.specs.List.{range_with_len}
use Rattle.rule_term.specs.declared.term.Term.{Term}
use Rattle.rule_term.specs.Rule.{Rule}
use Rattle.rule_term.specs.Terms.{Terms, terms_of}
use Rattle.rule_term.specs.Variants.{variant_count, variant_of}

-- one variant for each number below their count
abbrev pub variants_of : Rule → List Terms
variants_of rule = map (variant_of rule.search) (range_with_len 0 (variant_count rule))

-- each term of a list as a chain
abbrev pub sides_of : List Term → List Terms
sides_of list = map (λ side. terms_of (side ∷ [])) list
