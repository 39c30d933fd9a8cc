-- What an instruction with an opcode makes of the components of its sources.
use Rattle.std.specs.Prelude.{ℕ, List, map, slice_index}
use Rattle.nir_ops.specs.declared.op.Op.{Op}
use Rattle.nir_ops.specs.declared.width.Width.{Width}
use Rattle.nir_ops.specs.Width.{width_bits}
use Rattle.op_eval.specs.Calls.{unsized_width}
use Rattle.op_eval.specs.Views.{view_mean}
use Rattle.nir_ir.specs.declared.kind.Kind.{Kind}
use Rattle.nir_ir.specs.declared.instr.Src.{Src}
use Rattle.nir_ir.specs.Definitions.{Kinds, width_in}

-- the components of each value, by its number
abbrev pub Values : Type 0
Values = ℕ → List ℕ

-- the components that a source has
abbrev pub read : Values → Src → List ℕ
read values src = map (λ c. slice_index (values src.value.0) c) src.swizzle

-- the bit sizes of sources, where values have these kinds
abbrev pub source_sizes : Kinds → List Src → List Width
source_sizes kinds srcs = map (λ src. width_in kinds src.value) srcs

-- the components of a result of this kind
unfoldable pub alu_mean : Kinds → Op → Kind → List Src → Values → List ℕ
alu_mean kinds op kind srcs values =
    view_mean op (width_bits (unsized_width op kind.width (source_sizes kinds srcs))) (width_bits kind.width) kind.count (map (read values) srcs)
