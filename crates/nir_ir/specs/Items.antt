-- The items of a shader in text order: each block's head, phis, instructions and jump, and each head of an if or a loop.
use Rattle.std.specs.Prelude.{ℕ, List, [], ◌∷◌, ◌++◌, map, Option}
use Rattle.std.specs.Option.{option_map, option_to_list}
use Rattle.std.specs.List.{flat_map}
use Rattle.nir_ir.specs.declared.ids.BlockId.{BlockId}
use Rattle.nir_ir.specs.declared.ids.EffectId.{EffectId}
use Rattle.nir_ir.specs.declared.ids.IfId.{IfId}
use Rattle.nir_ir.specs.declared.ids.LoopId.{LoopId}
use Rattle.nir_ir.specs.declared.ids.ValueId.{ValueId}
use Rattle.nir_ir.specs.declared.instr.Instr.{Instr}
use Rattle.nir_ir.specs.declared.node.Block.{Block}
use Rattle.nir_ir.specs.declared.node.Jump.{Jump}
use Rattle.nir_ir.specs.declared.node.Phi.{Phi}
use Rattle.nir_ir.specs.Parts.{parts}
use Rattle.nir_ir.specs.Nodes.{Nodes, Nil, BlockThen, IfThen, LoopThen}

pub data Item : Type 0 where
  BlockHead : (id : BlockId) → Item
  PhiItem : (phi : Phi) → Item
  InstrItem : (instr : Instr) → Item
  JumpItem : (jump : Jump) → Item
  IfHead : (id : IfId) (cond : ValueId) → Item
  LoopHead : (id : LoopId) → Item

abbrev pub block_items : Block → List Item
block_items b = BlockHead b.id ∷ map PhiItem b.phis ++ map InstrItem b.instrs ++ map JumpItem (option_to_list b.jump)

-- all items, in text order
abbrev pub items : Nodes → List Item
items Nil = []
items (BlockThen b rest) = block_items b ++ items rest
items (IfThen id cond first second rest) = IfHead id cond ∷ items first ++ items second ++ items rest
items (LoopThen id body rest) = LoopHead id ∷ items body ++ items rest

-- the value that an instruction defines
abbrev pub target : Instr → Option ValueId
target instr = option_map (λ defined. defined.0) (parts instr).defines

-- the output or store that an instruction is
abbrev pub effect_of : Instr → Option EffectId
effect_of instr = (parts instr).effect

-- the values that an instruction uses, source by source
abbrev pub reads : Instr → List ValueId
reads instr = (parts instr).reads

-- the value that an item defines
abbrev pub defines : Item → List ValueId
defines (BlockHead id) = []
defines (PhiItem phi) = phi.value ∷ []
defines (InstrItem instr) = option_to_list (target instr)
defines (JumpItem jump) = []
defines (IfHead id cond) = []
defines (LoopHead id) = []

-- the values that an item uses, each as often as it uses it
abbrev pub uses : Item → List ValueId
uses (BlockHead id) = []
uses (PhiItem phi) = map (λ source. source.value) phi.sources
uses (InstrItem instr) = reads instr
uses (JumpItem jump) = []
uses (IfHead id cond) = cond ∷ []
uses (LoopHead id) = []

-- the blocks that an item names
abbrev pub names_blocks : Item → List BlockId
names_blocks (BlockHead id) = []
names_blocks (PhiItem phi) = map (λ source. source.from) phi.sources
names_blocks (InstrItem instr) = []
names_blocks (JumpItem jump) = []
names_blocks (IfHead id cond) = []
names_blocks (LoopHead id) = []

-- the block, the effect, the if and the loop that an item is
abbrev pub blocks_of : Item → List BlockId
blocks_of (BlockHead id) = id ∷ []
blocks_of (PhiItem phi) = []
blocks_of (InstrItem instr) = []
blocks_of (JumpItem jump) = []
blocks_of (IfHead id cond) = []
blocks_of (LoopHead id) = []

abbrev pub effects_of : Item → List EffectId
effects_of (BlockHead id) = []
effects_of (PhiItem phi) = []
effects_of (InstrItem instr) = option_to_list (effect_of instr)
effects_of (JumpItem jump) = []
effects_of (IfHead id cond) = []
effects_of (LoopHead id) = []

abbrev pub ifs_of : Item → List IfId
ifs_of (BlockHead id) = []
ifs_of (PhiItem phi) = []
ifs_of (InstrItem instr) = []
ifs_of (JumpItem jump) = []
ifs_of (IfHead id cond) = id ∷ []
ifs_of (LoopHead id) = []

abbrev pub loops_of : Item → List LoopId
loops_of (BlockHead id) = []
loops_of (PhiItem phi) = []
loops_of (InstrItem instr) = []
loops_of (JumpItem jump) = []
loops_of (IfHead id cond) = []
loops_of (LoopHead id) = id ∷ []

-- the numbers that the items of a list define or use, in text order
abbrev pub values_defined : Nodes → List ℕ
values_defined nodes = flat_map (λ item. map (λ id. id.0) (defines item)) (items nodes)

abbrev pub values_used : Nodes → List ℕ
values_used nodes = flat_map (λ item. map (λ id. id.0) (uses item)) (items nodes)

abbrev pub blocks_defined : Nodes → List ℕ
blocks_defined nodes = flat_map (λ item. map (λ id. id.0) (blocks_of item)) (items nodes)

abbrev pub blocks_named : Nodes → List ℕ
blocks_named nodes = flat_map (λ item. map (λ id. id.0) (names_blocks item)) (items nodes)

abbrev pub effects_defined : Nodes → List ℕ
effects_defined nodes = flat_map (λ item. map (λ id. id.0) (effects_of item)) (items nodes)

abbrev pub ifs_defined : Nodes → List ℕ
ifs_defined nodes = flat_map (λ item. map (λ id. id.0) (ifs_of item)) (items nodes)

abbrev pub loops_defined : Nodes → List ℕ
loops_defined nodes = flat_map (λ item. map (λ id. id.0) (loops_of item)) (items nodes)
