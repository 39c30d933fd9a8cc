-- What a copying walk over the tree of a shader gives: the tree, with the instructions of an edit in their place.
use Rattle.std.specs.Prelude.{ℕ, List, [], ◌∷◌}
use Rattle.std.specs.List.{flat_map}
use Rattle.nir_ir.specs.declared.instr.Instr.{Instr}
use Rattle.nir_ir.specs.declared.node.Block.{Block}
use Rattle.nir_ir.specs.Edits.{in_place_of, replaced, replaced_in_block}
use Rattle.nir_ir.specs.Nodes.{Nodes}
use Rattle.nir_ir.specs.Shader.{Shader}
use Rattle.nir_tree.specs.declared.copy.Edit.{Edit}
use Rattle.nir_tree.specs.declared.copy.Edit.TheVariants.{Keep, Place}

-- what stands in the place of an instruction
abbrev pub edited_instr : Edit → Instr → List Instr
edited_instr Keep instr = instr ∷ []
edited_instr (Place value news) instr = in_place_of value news.now instr

abbrev pub edited_instrs : Edit → List Instr → List Instr
edited_instrs Keep list = list
edited_instrs (Place value news) list = flat_map (in_place_of value news.now) list

abbrev pub edited_block : Edit → Block → Block
edited_block Keep b = b
edited_block (Place value news) b = replaced_in_block value news.now b

abbrev pub edited : Edit → Nodes → Nodes
edited Keep nodes = nodes
edited (Place value news) nodes = replaced value news.now nodes

-- the shader with the edit, and this next fresh number
abbrev pub edited_shader : Edit → Shader → ℕ → Shader
edited_shader edit s next = record { inputs = s.inputs; outputs = s.outputs; buffers = s.buffers; body = edited edit s.body; next_value = next }
