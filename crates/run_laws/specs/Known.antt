-- What is known at a point of a shader wherever a run comes to it: of each value that is defined on every path there its equation and its
-- kind, and that buffers hold bytes.
-- Told apart from it is what needs no run: which values are defined there, of what they are made, and that what stands there fits.
use Rattle.std.specs.Prelude.{◌≡◌, ◌⊎◌, ℕ, true, false, List, [], ◌∷◌, Option, Some}
use Rattle.std.specs.List.{AllByRecursion}
use Rattle.nir_ir.specs.declared.ids.BlockId.{BlockId}
use Rattle.nir_ir.specs.declared.ids.ValueId.{ValueId}
use Rattle.nir_ir.specs.declared.instr.Instr.{Instr}
use Rattle.nir_ir.specs.declared.kind.Kind.{Kind}
use Rattle.nir_ir.specs.declared.node.Block.{Block}
use Rattle.nir_ir.specs.declared.node.Phi.{Phi}
use Rattle.nir_ir.specs.Definitions.{Kinds, kind_of_target}
use Rattle.nir_ir.specs.Items.{target}
use Rattle.nir_ir.specs.Shaped.{IsShapedInstr}
use Rattle.nir_validate.specs.Each.{IsReached, PhiWalked}
use Rattle.nir_validate.specs.Edges.{Edge, Set, meet, set_after, set_after_phis}
use Rattle.nir_validate.specs.Kept.{ReadsIn}
use Rattle.nir_validate.specs.Rules.{condition_kind}
use Rattle.nir_validate.specs.Typed.{FitsIn, PhiFits}
use Rattle.walk_laws.specs.GrownLaws.{IsBelow}
use Rattle.walk_laws.specs.SetsLaws.{IsIn}
use Rattle.nir_mean.specs.Bytes.{BuffersHold}
use Rattle.nir_mean.specs.Known.{HasKind}
use Rattle.nir_mean.specs.Run.{Setting, phi_value, run_instrs, run_phis}
use Rattle.nir_mean.specs.State.{State}
use Rattle.nir_mean.specs.Values.{Values}
use Rattle.run_laws.specs.Makings.{Making, Makings, making_of}

-- ---- what is known in a state

-- each value of the set has what its equation says
abbrev pub Equations : Makings → Set → Values → Type 0
Equations makings set values = (id : ValueId) (making : Making) → IsIn set id → makings id ≡ Some making → values id.0 ≡ making.made values

-- and the components that its kind says
abbrev pub Ranges : Kinds → Set → Values → Type 0
Ranges kinds set values = (id : ValueId) (kind : Kind) → IsIn set id → kinds id ≡ Some kind → HasKind kind (values id.0)

-- it stays known where the set shrinks
pub record Known (kinds : Kinds) (makings : Makings) (set : Set) (state : State) : Type 0 where
  pub equations : Equations makings set state.values
  pub ranges : Ranges kinds set state.values
  pub bytes : BuffersHold state.world.buffers

-- ---- what is told of a shader apart from its runs

-- the kinds of its values and their equations, its slots and buffers, and what else holds of its instructions, phis and conditions
pub record Basis : Type 1 where
  pub kinds : Kinds
  pub makings : Makings
  pub inputs : List Kind
  pub outputs : List Kind
  pub buffers : ℕ
  pub instr : Instr → Type 0
  pub phi : Phi → Type 0
  pub condition : ValueId → Type 0

-- a run for these inputs, with so many repeats
abbrev pub under : Basis → List (List ℕ) → ℕ → Setting
under basis inputs repeats = record { kinds = basis.kinds; inputs = inputs; repeats = repeats }

-- the set is in that of each edge
abbrev pub IsUnder : Set → List Edge → Type 0
IsUnder set edges = AllByRecursion (λ edge. IsBelow set edge.set) edges

-- the edge is one of the list
abbrev pub IsEdgeOf : Edge → List Edge → Type 0
IsEdgeOf edge [] = ⊥
IsEdgeOf edge (first ∷ rest) = (edge ≡ first) ⊎ IsEdgeOf edge rest

abbrev pub Among : List Edge → List Edge → Type 0
Among edges all = (edge : Edge) → IsEdgeOf edge edges → IsEdgeOf edge all

-- the value of an instruction is new there, and has the instruction's kind and equation
pub record Defines (basis : Basis) (set : Set) (instr : Instr) (id : ValueId) : Type 0 where
  pub new : set id.0 ≡ false
  pub kind : basis.kinds id ≡ kind_of_target instr
  pub making : basis.makings id ≡ making_of basis.kinds instr

-- an instruction where the values of the set are defined
pub record InstrGood (basis : Basis) (set : Set) (instr : Instr) : Type 0 where
  pub reads : ReadsIn set instr
  pub shaped : IsShapedInstr instr
  pub fits : FitsIn basis.kinds basis.inputs basis.outputs basis.buffers instr
  pub defines : (id : ValueId) → target instr ≡ Some id → Defines basis set instr id
  pub other : basis.instr instr

abbrev pub InstrsGood : Basis → Set → List Instr → Type 0
InstrsGood basis set [] = Unit {0}
InstrsGood basis set (instr ∷ instrs) = InstrGood basis set instr × InstrsGood basis (set_after instr set) instrs

-- the equation of a phi, where it has one: it is made of values that are defined before its block, and is so along each edge
pub record PhiMade (basis : Basis) (edges all : List Edge) (phi : Phi) (making : Making) : Type 0 where
  pub reads : AllByRecursion (IsIn (meet edges)) making.reads
  pub equal : (edge : Edge) → IsEdgeOf edge all → (values : Values) → Equations basis.makings edge.set values
      → phi_value edge.from values phi ≡ making.made values

-- a phi of a block that the walk enters by these edges, and that has all of those
pub record PhiGood (basis : Basis) (edges all : List Edge) (phi : Phi) : Type 0 where
  pub new : meet edges phi.value.0 ≡ false
  pub kind : basis.kinds phi.value ≡ Some phi.kind
  pub fits : PhiFits basis.kinds phi
  pub walked : PhiWalked all phi
  pub made : (making : Making) → basis.makings phi.value ≡ Some making → PhiMade basis edges all phi making
  pub other : basis.phi phi

-- the parts of a block
pub record PartsGood (basis : Basis) (b : Block) (edges all : List Edge) : Type 0 where
  pub phis : AllByRecursion (PhiGood basis edges all) b.phis
  pub instrs : InstrsGood basis (set_after_phis b.phis (meet edges)) b.instrs

-- nothing is asked of what is not reached
abbrev pub BlockGood : Basis → Block → List Edge → List Edge → Type 0
BlockGood basis b edges all = IsReached edges → PartsGood basis b edges all

pub record IsConditionGood (basis : Basis) (condition : ValueId) (edges : List Edge) : Type 0 where
  pub defined : meet edges condition.0 ≡ true
  pub kind : basis.kinds condition ≡ Some condition_kind
  pub other : basis.condition condition

abbrev pub ConditionGood : Basis → ValueId → List Edge → Type 0
ConditionGood basis condition edges = IsReached edges → IsConditionGood basis condition edges

-- ---- a block as it runs

-- the state behind the phis, and behind the instructions
abbrev pub entered : Block → Option BlockId → State → State
entered b from state = record state { values = run_phis from b.phis state.values }

abbrev pub ended : Setting → Block → Option BlockId → State → State
ended m b from state = run_instrs m b.instrs (entered b from state)
