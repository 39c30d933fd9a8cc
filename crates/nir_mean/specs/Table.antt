-- The table of values as it changes: the components that it holds for each value, and their kind.
use Rattle.std.specs.Prelude.{◌≡◌, ℕ, List, [], length, slice_get}
use Rattle.std.specs.Option.{option_map_or}
use Rattle.nir_ops.specs.declared.width.Width.TheVariants.{W1}
use Rattle.op_eval.specs.declared.view.View.{View}
use Rattle.nir_ir.specs.declared.ids.ValueId.{ValueId}
use Rattle.nir_ir.specs.declared.kind.Kind.{Kind}
use Rattle.nir_ir.specs.Definitions.{kind_at}
use Rattle.nir_ir.specs.Shader.{Shader}
use Rattle.nir_mean.specs.Run.{kind_of}
use Rattle.nir_mean.specs.Values.{Values}

abbrev pub kind_seen : View → Kind
kind_seen view = record { width = view.width; count = length view.comps }

-- the components at each number, none past the end
abbrev pub values_of : List View → Values
values_of table n = option_map_or (λ view. view.comps) (slice_get table n) []

-- the kind at each number
abbrev pub kinds_of : List View → ℕ → Kind
kinds_of table n = option_map_or kind_seen (slice_get table n) (record { width = W1; count = 0 })

-- the table is one of this shader: each number has the kind of its value
pub record IsTable (s : Shader) (table : List View) : Type 0 where
  pub whole : length table ≡ s.next_value
  pub kinds : (id : ValueId) → kinds_of table id.0 ≡ kind_of (kind_at s.body) id
