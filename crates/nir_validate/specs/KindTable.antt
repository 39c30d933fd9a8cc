-- A table of the kinds of values by their numbers, as it is filled item by item.
use Rattle.std.specs.Prelude.{List, [], ◌∷◌, Option, Some, None, slice_index_or, slice_set}
use Rattle.nir_ir.specs.declared.ids.ValueId.{ValueId}
use Rattle.nir_ir.specs.declared.kind.Kind.{Kind}
use Rattle.nir_ir.specs.Definitions.{kind_of_target}
use Rattle.nir_ir.specs.Items.{Item, BlockHead, PhiItem, InstrItem, JumpItem, IfHead, LoopHead, items, target}
use Rattle.nir_ir.specs.Nodes.{Nodes}
use Rattle.nir_validate.specs.Rules.{Kinds}

-- what a table says of a value
abbrev pub kinds_in : List (Option Kind) → Kinds
kinds_in table id = slice_index_or table id.0 None

-- the table with the kind of a value, where both are given
abbrev pub told_pair : Option ValueId → Option Kind → List (Option Kind) → List (Option Kind)
told_pair None kind table = table
told_pair (Some id) None table = table
told_pair (Some id) (Some kind) table = slice_set table id.0 (Some kind)

-- the table with the kind of what an item defines, and with those of items in order
abbrev pub told : Item → List (Option Kind) → List (Option Kind)
told (BlockHead id) table = table
told (PhiItem phi) table = slice_set table phi.value.0 (Some phi.kind)
told (InstrItem instr) table = told_pair (target instr) (kind_of_target instr) table
told (JumpItem jump) table = table
told (IfHead id cond) table = table
told (LoopHead id) table = table

abbrev pub told_all : List Item → List (Option Kind) → List (Option Kind)
told_all [] table = table
told_all (item ∷ rest) table = told_all rest (told item table)

abbrev pub told_in : Nodes → List (Option Kind) → List (Option Kind)
told_in nodes table = told_all (items nodes) table
