-- The sizes of a rule's variables at a typing.
use Rattle.std.specs.Prelude.{ℕ, Option, List, map, sum, nat_eq}
use Rattle.std.specs.List.{find, range_with_len}
use Rattle.std.specs.Option.{option_map, unwrap_or}
use Rattle.nir_ops.specs.declared.width.Width.{Width}
use Rattle.nir_ops.specs.declared.width.Width.TheVariants.{W1}
use Rattle.nir_ops.specs.Width.{width_bits}
use Rattle.rule_term.specs.Rule.{Rule}
use Rattle.rule_term.specs.Typings.{Occurrence, occurrences, search_part}

-- the size of the first occurrence of a variable
abbrev pub width_found : List Occurrence → ℕ → Option Width
width_found list var = option_map (λ o. o.width) (find (λ o. nat_eq o.var var) list)

-- that size, and 1 bit where the variable has no occurrence
abbrev pub width_among : List Occurrence → ℕ → Width
width_among list var = unwrap_or (width_found list var) W1

-- the size of a variable of the rule
unfoldable pub var_width : Rule → List Width → ℕ → Width
var_width rule widths var = width_among (occurrences rule.search (search_part rule widths)) var

-- the bits of each variable, in the order of their numbers
abbrev pub var_bits : Rule → List Width → List ℕ
var_bits rule widths = map (λ var. width_bits (var_width rule widths var)) (range_with_len 0 rule.vars)

abbrev pub free_bits : Rule → List Width → ℕ
free_bits rule widths = sum (var_bits rule widths)
