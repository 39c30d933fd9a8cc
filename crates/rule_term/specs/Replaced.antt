-- The sizes of a rule's replacement where the nodes of its search side have certain sizes: those of the first typing with this search part.
use Rattle.op_eval.specs.Calls.{same_width}
use Rattle.std.specs.Prelude.{Bool, Option, List}
use Rattle.std.specs.List.{find}
use Rattle.std.specs.Option.{option_map}
use Rattle.std.specs.Cmp.Lexicographic.{pointwise}
use Rattle.nir_ops.specs.declared.width.Width.{Width}
use Rattle.rule_term.specs.Rule.{Rule}
use Rattle.rule_term.specs.Typings.{search_part, replace_part, typings}

-- the nodes of the search side have these sizes
abbrev pub has_search : Rule → List Width → List Width → Bool
has_search rule search widths = pointwise same_width (search_part rule widths) search

unfoldable pub replace_for : Rule → List Width → Option (List Width)
replace_for rule search = option_map (replace_part rule) (find (has_search rule search) (typings rule))
