-- What the parts of a typed shader are, each by itself: what a run asks of the code that it meets.
use Rattle.std.specs.Prelude.{◌≡◌, ◌<◌, Option, Some, None}
use Rattle.std.specs.List.{AllByRecursion}
use Rattle.nir_ir.specs.declared.ids.ValueId.{ValueId}
use Rattle.nir_ir.specs.declared.instr.Instr.{Instr}
use Rattle.nir_ir.specs.declared.kind.Kind.{Kind}
use Rattle.nir_ir.specs.declared.node.Block.{Block}
use Rattle.nir_ir.specs.declared.node.Phi.{Phi}
use Rattle.nir_ir.specs.Definitions.{kind_at, kind_of_target}
use Rattle.nir_ir.specs.Items.{target}
use Rattle.nir_ir.specs.Nodes.{Nodes, Nil, BlockThen, IfThen, LoopThen}
use Rattle.nir_ir.specs.Shader.{Shader}
use Rattle.nir_ir.specs.Shaped.{IsShapedInstr, IsShapedPhi}
use Rattle.nir_validate.specs.Typed.{InstrFits}

-- the value is one of the shader, and of this kind
abbrev pub DefinesIn : Shader → Option ValueId → Option Kind → Type 0
DefinesIn s None found = Unit {0}
DefinesIn s (Some id) None = Unit {0}
DefinesIn s (Some id) (Some kind) = (id.0 < s.next_value) × (kind_at s.body id ≡ Some kind)

pub record InstrSound (s : Shader) (instr : Instr) : Type 0 where
  pub shaped : IsShapedInstr instr
  pub fits : InstrFits s instr
  pub defines : DefinesIn s (target instr) (kind_of_target instr)

pub record PhiSound (s : Shader) (phi : Phi) : Type 0 where
  pub shaped : IsShapedPhi phi
  pub sources : AllByRecursion (λ source. kind_at s.body source.value ≡ Some phi.kind) phi.sources
  pub defines : DefinesIn s (Some phi.value) (Some phi.kind)

pub record BlockSound (s : Shader) (b : Block) : Type 0 where
  pub phis : AllByRecursion (PhiSound s) b.phis
  pub instrs : AllByRecursion (InstrSound s) b.instrs

abbrev pub NodesSound : Shader → Nodes → Type 0
NodesSound s Nil = Unit {0}
NodesSound s (BlockThen b rest) = BlockSound s b × NodesSound s rest
NodesSound s (IfThen id condition first second rest) = NodesSound s first × NodesSound s second × NodesSound s rest
NodesSound s (LoopThen id body rest) = NodesSound s body × NodesSound s rest
