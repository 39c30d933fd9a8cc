-- When a formula over options holds: `Has` where the option is set, and the others as in logic.
use Rattle.std.specs.Prelude.{ℕ, Bool, true, not, ◌&&◌, ◌||◌, List}
use Rattle.std.specs.List.{list_any}
use Rattle.std.specs.Box.{box_value}
use Rattle.std.specs.Str.{bytes_eq}
use Rattle.rule_term.specs.declared.when.Options.{Options}
use Rattle.rule_term.specs.declared.when.When.{When, When-F, fold-When}
use Rattle.rule_term.specs.declared.when.When.TheOpen as layer

-- the option is set
abbrev pub is_set : Options → List ℕ → Bool
is_set options name = list_any (λ set. bytes_eq set name) options.names

abbrev pub layer_holds : Options → When-F Bool → Bool
layer_holds options layer.Always = true
layer_holds options (layer.Has name) = is_set options name
layer_holds options (layer.Not inner) = not (box_value inner)
layer_holds options (layer.Both left right) = box_value left && box_value right
layer_holds options (layer.Either left right) = box_value left || box_value right

unfoldable pub when_holds : Options → When → Bool
when_holds options = fold-When Bool (layer_holds options)
