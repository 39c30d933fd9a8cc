-- Edits of the tree of a shader: instructions put in the place of the one that defines a value.
use Rattle.std.specs.Prelude.{◌≡◌, ℕ, ◌+◌, List, [], ◌∷◌, ◌++◌, length, map, Some, cond}
use Rattle.std.specs.List.{flat_map, range_with_len}
use Rattle.nir_ir.specs.declared.ids.ValueId.{ValueId}
use Rattle.nir_ir.specs.declared.instr.Instr.{Instr}
use Rattle.nir_ir.specs.declared.node.Block.{Block}
use Rattle.nir_ir.specs.Nodes.{Nodes, Nil, BlockThen, IfThen, LoopThen}
use Rattle.nir_ir.specs.Definitions.{is_target}
use Rattle.nir_ir.specs.Items.{target}
use Rattle.nir_ir.specs.Shader.{Shader}

-- what stands in the place of an instruction: the new ones where it defines the value
abbrev pub in_place_of : ValueId → List Instr → Instr → List Instr
in_place_of value news instr = cond (is_target value instr) news (instr ∷ [])

abbrev pub replaced_in_block : ValueId → List Instr → Block → Block
replaced_in_block value news b = record b { instrs = flat_map (in_place_of value news) b.instrs }

-- the new instructions in the place of each that defines the value
abbrev pub replaced : ValueId → List Instr → Nodes → Nodes
replaced value news Nil = Nil
replaced value news (BlockThen b rest) = BlockThen (replaced_in_block value news b) (replaced value news rest)
replaced value news (IfThen id condition first second rest) = IfThen id condition (replaced value news first) (replaced value news second) (replaced value news rest)
replaced value news (LoopThen id body rest) = LoopThen id (replaced value news body) (replaced value news rest)

-- Instructions that may stand in the place of the one that defines the value: the last of them defines it, those before define fresh numbers in
-- order, and `after` is the next fresh number.
pub record ArePlaced (next after : ℕ) (value : ValueId) (news : List Instr) : Type 0 where
  pub front : List Instr
  pub last : Instr
  pub are : news ≡ front ++ last ∷ []
  pub fresh : map target front ≡ map (λ n. Some (record { 0 = n })) (range_with_len next (length front))
  pub root : target last ≡ Some value
  pub counted : after ≡ next + length front

-- the shader with these instructions in the place of the one that defines the value
abbrev pub with_news : Shader → ValueId → List Instr → ℕ → Shader
with_news s value news after = record { inputs = s.inputs; outputs = s.outputs; buffers = s.buffers; body = replaced value news s.body; next_value = after }
