-- A shader with each kind of number counted from 0 in text order, as printing its text and reading it again would leave it.
use Rattle.std.specs.Prelude.{ℕ, List, map, length}
use Rattle.nir_ir.specs.declared.ids.BlockId.{BlockId}
use Rattle.nir_ir.specs.declared.ids.EffectId.{EffectId}
use Rattle.nir_ir.specs.declared.ids.IfId.{IfId}
use Rattle.nir_ir.specs.declared.ids.LoopId.{LoopId}
use Rattle.nir_ir.specs.declared.ids.ValueId.{ValueId}
use Rattle.nir_ir.specs.declared.instr.Instr.{Instr}
use Rattle.nir_ir.specs.declared.instr.Instr.TheVariants.{Alu, Const, Undef, Input, Output, LoadBuf, StoreBuf}
use Rattle.nir_ir.specs.declared.instr.Src.{Src}
use Rattle.nir_ir.specs.declared.node.Block.{Block}
use Rattle.nir_ir.specs.declared.node.Phi.{Phi}
use Rattle.nir_ir.specs.declared.node.PhiSource.{PhiSource}
use Rattle.nir_ir.specs.Nodes.{Nodes, Nil, BlockThen, IfThen, LoopThen}
use Rattle.nir_ir.specs.Items.{values_defined, effects_defined, ifs_defined, loops_defined}
use Rattle.nir_ir.specs.Shader.{Shader}
use Rattle.nir_print.specs.Naming.{Naming, naming_of, place, value_place, block_place, in_block_order}

-- the numbers that are in use, each list in text order
pub record Numbers : Type 0 where
  pub naming : Naming
  pub effects : List ℕ
  pub ifs : List ℕ
  pub loops : List ℕ

abbrev pub numbers_of : Nodes → Numbers
numbers_of nodes = record { naming = naming_of nodes; effects = effects_defined nodes; ifs = ifs_defined nodes; loops = loops_defined nodes }

abbrev pub new_value : Numbers → ValueId → ValueId
new_value numbers value = record { 0 = value_place numbers.naming value }

abbrev pub new_block : Numbers → BlockId → BlockId
new_block numbers block = record { 0 = block_place numbers.naming block }

abbrev pub new_effect : Numbers → EffectId → EffectId
new_effect numbers effect = record { 0 = place numbers.effects effect.0 }

abbrev pub new_if : Numbers → IfId → IfId
new_if numbers id = record { 0 = place numbers.ifs id.0 }

abbrev pub new_loop : Numbers → LoopId → LoopId
new_loop numbers id = record { 0 = place numbers.loops id.0 }

abbrev pub new_src : Numbers → Src → Src
new_src numbers src = record { value = new_value numbers src.value; swizzle = src.swizzle }

abbrev pub new_instr : Numbers → Instr → Instr
new_instr numbers (Alu value op kind srcs) = Alu (new_value numbers value) op kind (map (new_src numbers) srcs)
new_instr numbers (Const value kind comps) = Const (new_value numbers value) kind comps
new_instr numbers (Undef value kind) = Undef (new_value numbers value) kind
new_instr numbers (Input value kind slot) = Input (new_value numbers value) kind slot
new_instr numbers (Output effect slot src) = Output (new_effect numbers effect) slot (new_value numbers src)
new_instr numbers (LoadBuf value kind buffer offset) = LoadBuf (new_value numbers value) kind buffer (new_value numbers offset)
new_instr numbers (StoreBuf effect buffer offset src) = StoreBuf (new_effect numbers effect) buffer (new_value numbers offset) (new_value numbers src)

abbrev pub new_phi_source : Numbers → PhiSource → PhiSource
new_phi_source numbers source = record { from = new_block numbers source.from; value = new_value numbers source.value }

-- a phi with its sources in block order
abbrev pub new_phi : Numbers → Phi → Phi
new_phi numbers phi =
    record { value = new_value numbers phi.value; kind = phi.kind; sources = map (new_phi_source numbers) (in_block_order numbers.naming phi.sources) }

abbrev pub new_block_node : Numbers → Block → Block
new_block_node numbers block =
    record { id = new_block numbers block.id; phis = map (new_phi numbers) block.phis; instrs = map (new_instr numbers) block.instrs; jump = block.jump }

abbrev pub new_nodes : Numbers → Nodes → Nodes
new_nodes numbers Nil = Nil
new_nodes numbers (BlockThen block rest) = BlockThen (new_block_node numbers block) (new_nodes numbers rest)
new_nodes numbers (IfThen id cond first second rest) =
    IfThen (new_if numbers id) (new_value numbers cond) (new_nodes numbers first) (new_nodes numbers second) (new_nodes numbers rest)
new_nodes numbers (LoopThen id body rest) = LoopThen (new_loop numbers id) (new_nodes numbers body) (new_nodes numbers rest)

abbrev pub renumber : Shader → Shader
renumber shader =
    record {
      inputs = shader.inputs;
      outputs = shader.outputs;
      buffers = shader.buffers;
      body = new_nodes (numbers_of shader.body) shader.body;
      next_value = length (values_defined shader.body);
    }
