-- Which sources fit: in the instructions with opcodes that write the values of a set, the bit sizes fit, and each source has as many components as the opcode reads, and each is one that the source's value has.
use Rattle.std.specs.Prelude.{◌≡◌, ◌<◌, ℕ, true, List, Some, length, map}
use Rattle.std.specs.List.{AllByRecursion}
use Rattle.std.specs.Option.{option_map_or}
use Rattle.nir_ops.specs.declared.op.Op.{Op}
use Rattle.op_eval.specs.Calls.{Fits}
use Rattle.op_eval.specs.Views.{CountsFit}
use Rattle.nir_ir.specs.declared.ids.ValueId.{ValueId}
use Rattle.nir_ir.specs.declared.kind.Kind.{Kind}
use Rattle.nir_ir.specs.declared.instr.Instr.TheVariants.{Alu}
use Rattle.nir_ir.specs.declared.instr.Src.{Src}
use Rattle.nir_ir.specs.Definitions.{instr_defining, kind_at, width_at}
use Rattle.nir_ir.specs.Nodes.{Nodes}
use Rattle.nir_validate.specs.Edges.{Set}

-- how many components a value has
abbrev pub component_count : Nodes → ValueId → ℕ
component_count body value = option_map_or (λ kind. kind.count) (kind_at body value) 0

-- each component that a source names is one of its value
abbrev pub IsInside : Nodes → Src → Type 0
IsInside body src = AllByRecursion (λ c. c < component_count body src.value) src.swizzle

pub record IsFit (body : Nodes) (set : Set) : Type 0 where
  pub widths : (value : ValueId) (op : Op) (kind : Kind) (srcs : List Src) → set value.0 ≡ true → instr_defining value body ≡ Some (Alu value op kind srcs) → Fits op kind.width (map (λ src. width_at body src.value) srcs)
  pub counts : (value : ValueId) (op : Op) (kind : Kind) (srcs : List Src) → set value.0 ≡ true → instr_defining value body ≡ Some (Alu value op kind srcs) → CountsFit op kind.count (map (λ src. length src.swizzle) srcs)
  pub inside : (value : ValueId) (op : Op) (kind : Kind) (srcs : List Src) → set value.0 ≡ true → instr_defining value body ≡ Some (Alu value op kind srcs) → AllByRecursion (IsInside body) srcs
