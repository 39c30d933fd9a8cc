-- How often a value is used, as the use lists of an SSA form tell it: each source and each condition counts one.
use Rattle.std.specs.Prelude.{ℕ, Bool, nat_eq, count_by}
use Rattle.std.specs.List.{flat_map}
use Rattle.nir_ir.specs.declared.ids.ValueId.{ValueId}
use Rattle.nir_ir.specs.Nodes.{Nodes}
use Rattle.nir_ir.specs.Items.{items, uses}

-- the same number
abbrev pub is_value : ValueId → ValueId → Bool
is_value value used = nat_eq used.0 value.0

-- the sources of phis, ALU and other instructions, and the conditions, that are the value
abbrev pub use_count : ValueId → Nodes → ℕ
use_count value nodes = count_by (is_value value) (flat_map uses (items nodes))
