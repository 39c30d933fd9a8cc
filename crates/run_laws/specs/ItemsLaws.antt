-- A fact of each item of a list, node by node.
use Rattle.std.specs.Prelude.{◌++◌, map}
use Rattle.std.specs.List.{AllByRecursion}
use Rattle.std.specs.Option.{option_to_list}
use Rattle.list_laws.specs.AllLaws.{all_back, all_front, all_of_map}
use Rattle.nir_ir.specs.declared.node.Block.{Block}
use Rattle.nir_ir.specs.Items.{Item, IfHead, InstrItem, JumpItem, PhiItem, block_items, items}
use Rattle.nir_ir.specs.Nodes.{Nodes, Nil, BlockThen, IfThen, LoopThen}

abbrev pub OfBlock : (Item → Type 0) → Block → Type 0
OfBlock Q b = AllByRecursion (λ phi. Q (PhiItem phi)) b.phis × AllByRecursion (λ instr. Q (InstrItem instr)) b.instrs

abbrev pub OfNodes : (Item → Type 0) → Nodes → Type 0
OfNodes Q Nil = Unit {0}
OfNodes Q (BlockThen b rest) = OfBlock Q b × OfNodes Q rest
OfNodes Q (IfThen id condition first second rest) = Q (IfHead id condition) × OfNodes Q first × OfNodes Q second × OfNodes Q rest
OfNodes Q (LoopThen id body rest) = OfNodes Q body × OfNodes Q rest

of_block : (Q : Item → Type 0) (b : Block) → AllByRecursion Q (block_items b) → OfBlock Q b
of_block Q b all =
    let front = all_front Q (map PhiItem b.phis ++ map InstrItem b.instrs) (map JumpItem (option_to_list b.jump)) all.1 in (
      all_of_map PhiItem Q b.phis (all_front Q (map PhiItem b.phis) (map InstrItem b.instrs) front),
      all_of_map InstrItem Q b.instrs (all_back Q (map PhiItem b.phis) (map InstrItem b.instrs) front),
    )

pub of_items : (Q : Item → Type 0) (nodes : Nodes) → AllByRecursion Q (items nodes) → OfNodes Q nodes
of_items Q Nil all = tt
of_items Q (BlockThen b rest) all = (of_block Q b (all_front Q (block_items b) (items rest) all), of_items Q rest (all_back Q (block_items b) (items rest) all))
of_items Q (IfThen id condition first second rest) all =
    let both = all_front Q (items first ++ items second) (items rest) all.1 in (
      all.0,
      of_items Q first (all_front Q (items first) (items second) both),
      of_items Q second (all_back Q (items first) (items second) both),
      of_items Q rest (all_back Q (items first ++ items second) (items rest) all.1),
    )
of_items Q (LoopThen id body rest) all = (of_items Q body (all_front Q (items body) (items rest) all.1), of_items Q rest (all_back Q (items body) (items rest) all.1))
