-- Shaders whose parts fit one another by kind, as the checks of Mesa's nir_validate ask: each instruction, phi and condition, each slot and buffer.
use Rattle.std.specs.Prelude.{◌≡◌, ◌≢◌, ◌<◌, ℕ, List, length, map, MatchOption, Option, Some, slice_get}
use Rattle.std.specs.List.{AllByRecursion}
use Rattle.nir_ops.specs.declared.op.Op.{Op}
use Rattle.nir_ops.specs.declared.width.Width.TheVariants.{W1}
use Rattle.op_eval.specs.Calls.{Fits}
use Rattle.op_eval.specs.Views.{CountsFit}
use Rattle.nir_ir.specs.declared.instr.Instr.{Instr}
use Rattle.nir_ir.specs.declared.instr.Instr.TheVariants.{Alu, Const, Undef, Input, Output, LoadBuf, StoreBuf}
use Rattle.nir_ir.specs.declared.instr.Src.{Src}
use Rattle.nir_ir.specs.declared.kind.Kind.{Kind}
use Rattle.nir_ir.specs.declared.node.Block.{Block}
use Rattle.nir_ir.specs.declared.node.Phi.{Phi}
use Rattle.nir_ir.specs.Definitions.{kind_at}
use Rattle.nir_ir.specs.Items.{Item, BlockHead, PhiItem, InstrItem, JumpItem, IfHead, LoopHead, items}
use Rattle.nir_ir.specs.Nodes.{Nodes, Nil, BlockThen, IfThen, LoopThen}
use Rattle.nir_ir.specs.Shader.{Shader}
use Rattle.nir_validate.specs.Rules.{Kinds, condition_kind, count_in, offset_kind, width_in}

-- there is a kind, and it is of this sort
abbrev pub HasKindThat : Option Kind → (Kind → Type 0) → Type 0
HasKindThat found P = MatchOption found ⊥ P

-- each component that a source names is one that its value has
abbrev pub NamesComponents : Kinds → Src → Type 0
NamesComponents kinds src = AllByRecursion (λ entry. entry < count_in kinds src.value) src.swizzle

-- a load or store is of components of whole bytes
abbrev pub IsStorable : Kind → Type 0
IsStorable kind = kind.width ≢ W1

-- the kinds of an instruction with an opcode and of its sources fit the opcode
pub record AluFits (kinds : Kinds) (op : Op) (kind : Kind) (srcs : List Src) : Type 0 where
  pub widths : Fits op kind.width (map (λ src. width_in kinds src.value) srcs)
  pub counts : CountsFit op kind.count (map (λ src. length src.swizzle) srcs)
  pub names : AllByRecursion (NamesComponents kinds) srcs

-- an instruction fits the kinds of the values that it uses, and the slots and buffers that are declared
abbrev pub FitsIn : Kinds → List Kind → List Kind → ℕ → Instr → Type 0
FitsIn kinds inputs outputs buffers (Alu id op kind srcs) = AluFits kinds op kind srcs
FitsIn kinds inputs outputs buffers (Const id kind comps) = Unit {0}
FitsIn kinds inputs outputs buffers (Undef id kind) = Unit {0}
FitsIn kinds inputs outputs buffers (Input id kind slot) = slice_get inputs slot ≡ Some kind
FitsIn kinds inputs outputs buffers (Output effect slot src) = HasKindThat (slice_get outputs slot) (λ kind. kinds src ≡ Some kind)
FitsIn kinds inputs outputs buffers (LoadBuf id kind buffer offset) = (buffer < buffers) × (kinds offset ≡ Some offset_kind) × IsStorable kind
FitsIn kinds inputs outputs buffers (StoreBuf effect buffer offset src) = (buffer < buffers) × (kinds offset ≡ Some offset_kind) × HasKindThat (kinds src) IsStorable

abbrev pub InstrFits : Shader → Instr → Type 0
InstrFits s instr = FitsIn (kind_at s.body) s.inputs s.outputs s.buffers instr

-- the sources of a phi have its kind
abbrev pub PhiFits : Kinds → Phi → Type 0
PhiFits kinds phi = AllByRecursion (λ source. kinds source.value ≡ Some phi.kind) phi.sources

abbrev pub ItemFits : Shader → Item → Type 0
ItemFits s (BlockHead id) = Unit {0}
ItemFits s (PhiItem phi) = PhiFits (kind_at s.body) phi
ItemFits s (InstrItem instr) = InstrFits s instr
ItemFits s (JumpItem jump) = Unit {0}
ItemFits s (IfHead id cond) = kind_at s.body cond ≡ Some condition_kind
ItemFits s (LoopHead id) = Unit {0}

pub record IsTyped (s : Shader) : Type 0 where
  pub items : AllByRecursion (ItemFits s) (items s.body)

-- the same node by node
abbrev pub BlockFits : Shader → Block → Type 0
BlockFits s b = AllByRecursion (PhiFits (kind_at s.body)) b.phis × AllByRecursion (InstrFits s) b.instrs

abbrev pub NodesFit : Shader → Nodes → Type 0
NodesFit s Nil = Unit {0}
NodesFit s (BlockThen b rest) = BlockFits s b × NodesFit s rest
NodesFit s (IfThen id cond first second rest) = (kind_at s.body cond ≡ Some condition_kind) × NodesFit s first × NodesFit s second × NodesFit s rest
NodesFit s (LoopThen id body rest) = NodesFit s body × NodesFit s rest
