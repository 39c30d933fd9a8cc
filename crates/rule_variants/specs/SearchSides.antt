-- What is asked of a search side but for the order of its variables, and that each variant of a formed rule is one (after nir_algebraic of Mesa's NIR).
use Rattle.std.specs.Prelude.{◌≡◌, ◌≤◌, ℕ, true, length}
use Rattle.std.specs.List.{list_all}
use Rattle.std.specs.List.Sorted.{IsPermutation}
use Rattle.rule_term.specs.Formed.{IsFormed, is_application, search_piece_formed}
use Rattle.rule_term.specs.Pieces.{ops_of, pieces, terms_count}
use Rattle.rule_term.specs.Rule.{Rule}
use Rattle.rule_term.specs.Terms.{Terms}
use Rattle.rule_term.specs.Variants.{variant_of}

-- one opcode over its sources
pub record IsSearchSide (side : Terms) : Type 0 where
  pub application : is_application side ≡ true
  pub one : terms_count side ≡ 1
  pub nodes : list_all search_piece_formed (pieces side) ≡ true
  pub few : length (ops_of side) ≤ 16

-- a variant has the nodes of the search side, with all that they ask, in another order
abbrev pub VariantsKeepNodes : Type 0
VariantsKeepNodes = (terms : Terms) (variant : ℕ) → IsPermutation (pieces terms) (pieces (variant_of terms variant))

abbrev pub VariantsAreSides : Type 0
VariantsAreSides = (rule : Rule) (variant : ℕ) → IsFormed rule → IsSearchSide (variant_of rule.search variant)
