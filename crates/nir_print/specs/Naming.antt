-- How a text names the values and blocks of a shader: by their places in text order, as the value numbers of Mesa's NIR printer.
use Rattle.std.specs.Prelude.{ℕ, ◌+◌, List, [], ◌∷◌, ◌++◌, Option, refl, nat_eq, length, filter}
use Rattle.std.specs.List.{flat_map, position_or_len, range_with_len, slice_get}
use Rattle.std.specs.Option.{option_map_or}
use Rattle.std.specs.Coded.{Coded, code_by, coded_list, coded×, coded_ℕ}
use Rattle.nir_ir.specs.declared.ids.BlockId.{BlockId}
use Rattle.nir_ir.specs.declared.ids.ValueId.{ValueId}
use Rattle.nir_ir.specs.declared.instr.Instr.{Instr}
use Rattle.nir_ir.specs.declared.kind.Kind.{Kind}
use Rattle.nir_ir.specs.contracts.kind.Kind as kind
use Rattle.nir_ir.specs.declared.node.PhiSource.{PhiSource}
use Rattle.nir_ir.specs.Nodes.{Nodes}
use Rattle.nir_ir.specs.Parts.{parts}
use Rattle.nir_ir.specs.Items.{Item, BlockHead, PhiItem, InstrItem, JumpItem, IfHead, LoopHead, values_defined, blocks_defined}
use Rattle.nir_ir.specs.Definitions.{kinds_defined}

-- the numbers of the values and blocks that the text defines, each list in text order, and the kind of each of those values
pub record Naming : Type 0 where
  pub values : List ℕ
  pub kinds : List Kind
  pub blocks : List ℕ

abbrev pub naming_of : Nodes → Naming
naming_of nodes = record { values = values_defined nodes; kinds = kinds_defined nodes; blocks = blocks_defined nodes }

-- what the text has named once one more item stands in it
abbrev pub with_value : Naming → ValueId → Kind → Naming
with_value naming value kind = record { values = naming.values ++ value.0 ∷ []; kinds = naming.kinds ++ kind ∷ []; blocks = naming.blocks }

abbrev pub with_instr : Naming → Instr → Naming
with_instr naming instr = option_map_or (λ defined. with_value naming defined.0 defined.1) (parts instr).defines naming

abbrev pub with_item : Naming → Item → Naming
with_item naming (BlockHead id) = record { values = naming.values; kinds = naming.kinds; blocks = naming.blocks ++ id.0 ∷ [] }
with_item naming (PhiItem phi) = with_value naming phi.value phi.kind
with_item naming (InstrItem instr) = with_instr naming instr
with_item naming (JumpItem jump) = naming
with_item naming (IfHead id cond) = naming
with_item naming (LoopHead id) = naming

-- the place of a number in a list, or the list's length where it is not there
abbrev pub place : List ℕ → ℕ → ℕ
place numbers n = position_or_len (nat_eq n) numbers

abbrev pub value_place : Naming → ValueId → ℕ
value_place naming value = place naming.values value.0

abbrev pub block_place : Naming → BlockId → ℕ
block_place naming block = place naming.blocks block.0

-- the kind with which the text defines a value
abbrev pub kind_of : Naming → ValueId → Option Kind
kind_of naming value = slice_get naming.kinds (value_place naming value)

-- the sources of a phi in block order, those of one block in the order they had. A block that the text does not have would come last.
abbrev pub in_block_order : Naming → List PhiSource → List PhiSource
in_block_order naming sources =
    flat_map (λ block. filter (λ source. nat_eq (block_place naming source.from) block) sources) (range_with_len 0 (length naming.blocks + 1))

-- a naming is stored as the tuple of its parts
abbrev pub naming_code : Coded Naming
naming_code =
    code_by (List ℕ × (List Kind × List ℕ))
    (coded× (coded_list coded_ℕ) (coded× (coded_list kind.the_row.coded) (coded_list coded_ℕ)))
    (λ n. (n.values, (n.kinds, n.blocks)))
    (λ p. record { values = p.0; kinds = p.1.0; blocks = p.1.1 })
    (λ _. refl)
