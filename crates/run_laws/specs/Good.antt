-- The parts of a valid shader are good at their places, so what is known holds wherever its runs come to.
use Rattle.std.specs.Prelude.{◌≡◌, false, List, [], ◌∷◌, Some, None}
use Rattle.std.specs.List.{AllByRecursion}
use Rattle.nir_ir.specs.declared.ids.IfId.{IfId}
use Rattle.nir_ir.specs.declared.ids.ValueId.{ValueId}
use Rattle.nir_ir.specs.declared.instr.Instr.{Instr}
use Rattle.nir_ir.specs.declared.kind.Kind.{Kind}
use Rattle.nir_ir.specs.declared.node.Phi.{Phi}
use Rattle.nir_ir.specs.Definitions.{Kinds, instr_defining, kind_at, phi_defining}
use Rattle.nir_ir.specs.Items.{Item, IfHead, InstrItem, PhiItem, items}
use Rattle.nir_ir.specs.Nodes.{Nodes}
use Rattle.nir_ir.specs.Shader.{Shader}
use Rattle.nir_ir.specs.Shaped.{IsShaped}
use Rattle.nir_validate.specs.Each.{Each, IsReached, PhiWalked}
use Rattle.nir_validate.specs.Edges.{Edge}
use Rattle.nir_validate.specs.Valid.{Valid}
use Rattle.nir_validate.specs.Walk.{entry}
use Rattle.walk_laws.specs.AlongLaws.{HasBlock}
use Rattle.run_laws.specs.Known.{Among, Basis, BlockGood, ConditionGood, PhiMade}
use Rattle.run_laws.specs.Makings.{Making, Makings, making_of, makings_of}

-- a kind for each value that has one in the other, and the same
abbrev pub Extends : Kinds → Kinds → Type 0
Extends kinds other = (id : ValueId) (kind : Kind) → other id ≡ Some kind → kinds id ≡ Some kind

-- a shader as it is told by these kinds and equations, and by what else holds of its items
abbrev pub basis_of : Shader → Kinds → Makings → (Item → Type 0) → Basis
basis_of s kinds makings other = record {
  kinds = kinds;
  makings = makings;
  inputs = s.inputs;
  outputs = s.outputs;
  buffers = s.buffers;
  instr = λ instr. other (InstrItem instr);
  phi = λ phi. other (PhiItem phi);
  condition = λ condition. (id : IfId) × other (IfHead id condition);
}

-- the equations are those of the instructions, and perhaps some of phis
abbrev pub TellsInstrs : Kinds → Makings → Nodes → Type 0
TellsInstrs kinds makings body = (id : ValueId) (instr : Instr) → instr_defining id body ≡ Some instr → makings id ≡ making_of kinds instr

-- A phi at its place: the walk enters its block by the first edges, which are among all of them; its value is defined along none of the first; all
-- come from blocks; its sources name each of these blocks once, and are defined along its edges.
pub record PhiAt (edges all : List Edge) (phi : Phi) : Type 0 where
  pub reached : IsReached edges
  pub among : Among edges all
  pub new : AllByRecursion (λ edge. edge.set phi.value.0 ≡ false) edges
  pub named : AllByRecursion HasBlock all
  pub walked : PhiWalked all phi

-- each equation of a phi holds at its place
abbrev pub TellsPhis : Basis → Nodes → Type 0
TellsPhis basis body =
    (phi : Phi) (making : Making) → phi_defining phi.value body ≡ Some phi → instr_defining phi.value body ≡ None
    → basis.makings phi.value ≡ Some making
    → (edges all : List Edge) → PhiAt edges all phi → PhiMade basis edges all phi making

abbrev pub ValidIsGood : Type 1
ValidIsGood =
    (s : Shader) (kinds : Kinds) (makings : Makings) (other : Item → Type 0) → IsShaped s → Valid s → Extends kinds (kind_at s.body)
    → TellsInstrs kinds makings s.body → TellsPhis (basis_of s kinds makings other) s.body → AllByRecursion other (items s.body)
    → Each (BlockGood (basis_of s kinds makings other)) (ConditionGood (basis_of s kinds makings other)) s.body (entry ∷ []) []

-- with the equations of its instructions alone
abbrev pub ValidIsGoodByInstrs : Type 1
ValidIsGoodByInstrs =
    (s : Shader) (kinds : Kinds) (other : Item → Type 0) → IsShaped s → Valid s → Extends kinds (kind_at s.body) → AllByRecursion other (items s.body)
    → let basis = basis_of s kinds (makings_of kinds s.body) other in Each (BlockGood basis) (ConditionGood basis) s.body (entry ∷ []) []
