-- The sizes of typings.
use Rattle.std.specs.Prelude.{List, map}
use Rattle.nir_ops.specs.declared.width.Width.{Width}
use Rattle.rule_term.specs.declared.typing.Typing.{Typing}

abbrev pub widths_of : Typing → List Width
widths_of typing = typing.widths

abbrev pub all_widths_of : List Typing → List (List Width)
all_widths_of typings = map widths_of typings
