-- The uses of a value in text order, item by item and source by source: what a walk along the tree lists.
use Rattle.std.specs.Prelude.{ℕ, ◌+◌, List, [], ◌∷◌, cond}
use Rattle.std.specs.List.{flat_map}
use Rattle.nir_ir.specs.declared.ids.ValueId.{ValueId}
use Rattle.nir_ir.specs.declared.instr.Instr.{Instr}
use Rattle.nir_ir.specs.declared.instr.Instr.TheVariants.{Alu, Const, Undef, Input, Output, LoadBuf, StoreBuf}
use Rattle.nir_ir.specs.declared.journal.Use.{Use}
use Rattle.nir_ir.specs.declared.journal.Use.TheVariants.{OfValue, OfEffect, OfIf}
use Rattle.nir_ir.specs.Items.{Item, BlockHead, PhiItem, InstrItem, JumpItem, IfHead, LoopHead, items, uses}
use Rattle.nir_ir.specs.Nodes.{Nodes}
use Rattle.nir_ir.specs.Uses.{is_value}

-- the sources that are the value, numbered from n
abbrev pub numbered : ValueId → (ℕ → Use) → ℕ → List ValueId → List Use
numbered value named n [] = []
numbered value named n (used ∷ more) = cond (is_value value used) (named n ∷ numbered value named (n + 1) more) (numbered value named (n + 1) more)

-- how a source of an instruction is named
abbrev pub source_of : Instr → ℕ → Use
source_of (Alu value op kind srcs) = OfValue value
source_of (Const value kind comps) = OfValue value
source_of (Undef value kind) = OfValue value
source_of (Input value kind slot) = OfValue value
source_of (Output effect slot src) = OfEffect effect
source_of (LoadBuf value kind buffer offset) = OfValue value
source_of (StoreBuf effect buffer offset src) = OfEffect effect

-- the uses of the value by an item
abbrev pub uses_by : ValueId → Item → List Use
uses_by value (BlockHead id) = []
uses_by value (PhiItem phi) = numbered value (OfValue phi.value) 0 (uses (PhiItem phi))
uses_by value (InstrItem instr) = numbered value (source_of instr) 0 (uses (InstrItem instr))
uses_by value (JumpItem jump) = []
uses_by value (IfHead id condition) = numbered value (λ _. OfIf id) 0 (condition ∷ [])
uses_by value (LoopHead id) = []

abbrev pub uses_in : ValueId → Nodes → List Use
uses_in value nodes = flat_map (uses_by value) (items nodes)
