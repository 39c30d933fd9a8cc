-- When the sizes of a rule's search side do not settle those of its replacement.
use Rattle.std.specs.Prelude.{◌≡◌, ◌<◌, ℕ, Bool, true, not, ◌&&◌, Option, List}
use Rattle.std.specs.List.{find, list_any, range_with_len}
use Rattle.std.specs.Cmp.Lexicographic.{pointwise}
use Rattle.nir_ops.specs.declared.width.Width.{Width}
use Rattle.op_eval.specs.Calls.{same_width}
use Rattle.rule_term.specs.Rule.{Rule}
use Rattle.rule_term.specs.Typings.{is_typing, replace_part, search_part, size_of, typings}
use Rattle.size_laws.specs.Places.{at}

-- two typings agree on the search side and differ at this node of the replacement, in preorder, whose root is 0
pub record IsAmbiguousAt (rule : Rule) (node : ℕ) : Type 0 where
  pub one : List Width
  pub two : List Width
  pub one_typing : is_typing rule one ≡ true
  pub two_typing : is_typing rule two ≡ true
  pub agree : search_part rule one ≡ search_part rule two
  pub differ : at (replace_part rule one) node ≡ at (replace_part rule two) node → ⊥

-- there are such typings for this node, and for none before it
pub record IsFirstAmbiguous (rule : Rule) (node : ℕ) : Type 0 where
  pub ambiguous : IsAmbiguousAt rule node
  pub first : (earlier : ℕ) → earlier < node → IsAmbiguousAt rule earlier → ⊥

-- typings that agree on the search side are one
abbrev pub IsDefinite : Rule → Type 0
IsDefinite rule =
    (one two : List Width) → is_typing rule one ≡ true → is_typing rule two ≡ true → search_part rule one ≡ search_part rule two → one ≡ two

-- two lists of sizes agree on the search side and differ at this node of the replacement
abbrev pub differ_at : Rule → ℕ → List Width → List Width → Bool
differ_at rule node one two =
    pointwise same_width (search_part rule one) (search_part rule two) && not (same_width (at (replace_part rule one) node) (at (replace_part rule two) node))

-- two typings do
abbrev pub is_ambiguous_at : Rule → ℕ → Bool
is_ambiguous_at rule node = list_any (λ one. list_any (differ_at rule node one) (typings rule)) (typings rule)

-- the first node at which two typings do, none where there is no such node
unfoldable pub ambiguous_node : Rule → Option ℕ
ambiguous_node rule = find (is_ambiguous_at rule) (range_with_len 0 (size_of rule.replace))
