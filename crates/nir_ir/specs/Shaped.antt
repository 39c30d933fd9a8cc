-- What every shader keeps, whatever it means: its numbers name one thing each, and its parts have the sizes that their kinds say.
use Rattle.std.specs.Prelude.{◌≡◌, ℕ, ◌^◌, ◌<◌, ◌≤◌, List, [], ◌∷◌, length, IsTrue, nat_eq}
use Rattle.std.specs.List.{IsDistinct, AllByRecursion, list_any}
use Rattle.nir_ops.specs.Opcodes.{op_info}
use Rattle.nir_ops.specs.Width.{width_bits}
use Rattle.nir_ir.specs.declared.instr.Instr.{Instr}
use Rattle.nir_ir.specs.declared.instr.Instr.TheVariants.{Alu, Const, Undef, Input, Output, LoadBuf, StoreBuf}
use Rattle.nir_ir.specs.declared.kind.Kind.{Kind}
use Rattle.nir_ir.specs.declared.node.Phi.{Phi}
use Rattle.nir_ir.specs.Items.{Item, BlockHead, PhiItem, InstrItem, JumpItem, IfHead, LoopHead, items, values_defined, values_used, blocks_defined, blocks_named, effects_defined, ifs_defined, loops_defined}
use Rattle.nir_ir.specs.Shader.{Shader}

-- the number is one of the list
abbrev pub IsOneOf : List ℕ → ℕ → Type 0
IsOneOf numbers n = IsTrue (list_any (nat_eq n) numbers)

-- how many components a value may have
abbrev pub IsCount : ℕ → Type 0
IsCount count = IsOneOf (1 ∷ 2 ∷ 3 ∷ 4 ∷ []) count

-- 1 to 4 entries, each the number of a component
pub record IsSwizzle (swizzle : List ℕ) : Type 0 where
  pub some : 1 ≤ length swizzle
  pub few : length swizzle ≤ 4
  pub components : AllByRecursion (λ entry. entry < 4) swizzle

-- as many components as the kind says, each a word of its width
pub record AreComponents (kind : Kind) (comps : List ℕ) : Type 0 where
  pub count : length comps ≡ kind.count
  pub words : AllByRecursion (λ comp. comp < 2 ^ width_bits kind.width) comps

abbrev pub IsShapedPhi : Phi → Type 0
IsShapedPhi phi = IsCount phi.kind.count × (length phi.sources < 2 ^ 32)

abbrev pub IsShapedInstr : Instr → Type 0
IsShapedInstr (Alu value op kind srcs) =
    IsCount kind.count × (length srcs ≡ length (op_info op).inputs) × AllByRecursion (λ src. IsSwizzle src.swizzle) srcs
IsShapedInstr (Const value kind comps) = IsCount kind.count × AreComponents kind comps
IsShapedInstr (Undef value kind) = IsCount kind.count
IsShapedInstr (Input value kind slot) = IsCount kind.count
IsShapedInstr (Output effect slot src) = Unit {0}
IsShapedInstr (LoadBuf value kind buffer offset) = IsCount kind.count
IsShapedInstr (StoreBuf effect buffer offset src) = Unit {0}

abbrev pub IsShapedItem : Item → Type 0
IsShapedItem (BlockHead id) = Unit {0}
IsShapedItem (PhiItem phi) = IsShapedPhi phi
IsShapedItem (InstrItem instr) = IsShapedInstr instr
IsShapedItem (JumpItem jump) = Unit {0}
IsShapedItem (IfHead id cond) = Unit {0}
IsShapedItem (LoopHead id) = Unit {0}

pub record IsShaped (s : Shader) : Type 0 where
  -- each number names one thing
  pub values : IsDistinct nat_eq (values_defined s.body)
  pub blocks : IsDistinct nat_eq (blocks_defined s.body)
  pub effects : IsDistinct nat_eq (effects_defined s.body)
  pub ifs : IsDistinct nat_eq (ifs_defined s.body)
  pub loops : IsDistinct nat_eq (loops_defined s.body)
  pub below : AllByRecursion (λ v. v < s.next_value) (values_defined s.body)
  -- what is used or named is there
  pub uses : AllByRecursion (IsOneOf (values_defined s.body)) (values_used s.body)
  pub names : AllByRecursion (IsOneOf (blocks_defined s.body)) (blocks_named s.body)
  -- each part has the size that it is to have
  pub items : AllByRecursion IsShapedItem (items s.body)
  pub inputs : AllByRecursion (λ kind. IsCount kind.count) s.inputs
  pub outputs : AllByRecursion (λ kind. IsCount kind.count) s.outputs
