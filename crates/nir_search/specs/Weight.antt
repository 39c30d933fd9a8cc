-- The weight of a shader: the weights of the opcodes of all its ALU instructions together. A table keeps that a mov weighs nothing.
use Rattle.std.specs.Prelude.{ℕ, sum_by}
use Rattle.std.specs.Option.{option_map_or}
use Rattle.nir_ops.specs.declared.op.Op.{Op}
use Rattle.nir_ir.specs.declared.instr.Instr.{Instr}
use Rattle.nir_ir.specs.Definitions.{alu_of, instrs}
use Rattle.nir_ir.specs.Nodes.{Nodes}
use Rattle.nir_ir.specs.Shader.{Shader}

abbrev pub instr_weight : (Op → ℕ) → Instr → ℕ
instr_weight weight instr = option_map_or (λ alu. weight alu.0) (alu_of instr) 0

-- the weight of a list of nodes, and that of a whole shader
abbrev pub total : (Op → ℕ) → Nodes → ℕ
total weight nodes = sum_by (instr_weight weight) (instrs nodes)

abbrev pub weight_of : (Op → ℕ) → Shader → ℕ
weight_of weight shader = total weight shader.body
