-- The central fact: wherever a run comes to, at each block, at each if and at each way out of a list, what is known holds of the values that
-- are defined on every path there.
use Rattle.std.specs.Prelude.{◌≡◌, ℕ, zero, suc, Bool, true, false, nat_eq, List, [], ◌∷◌, ◌++◌, Option, None}
use Rattle.nir_ir.specs.declared.ids.BlockId.{BlockId}
use Rattle.nir_ir.specs.declared.ids.ValueId.{ValueId}
use Rattle.nir_ir.specs.declared.node.Block.{Block}
use Rattle.nir_ir.specs.Definitions.{kind_at}
use Rattle.nir_ir.specs.Nodes.{Nodes, Nil, BlockThen, IfThen, LoopThen}
use Rattle.nir_ir.specs.Shader.{Shader}
use Rattle.nir_ir.specs.Shaped.{IsShaped}
use Rattle.nir_validate.specs.Each.{IsReached}
use Rattle.nir_validate.specs.Edges.{Edge, Flow, backs, either, meet, out_of_loop}
use Rattle.nir_validate.specs.Valid.{Valid}
use Rattle.nir_validate.specs.Walk.{block_flow, entry, walk}
use Rattle.nir_mean.specs.Outcome.{setting, start}
use Rattle.nir_mean.specs.Run.{Break, Continue, Cut, Exit, Fall, Part, Setting, run_block, run_choice, run_list, scalar, turns}
use Rattle.nir_mean.specs.Same.{BuffersFit, InputsFit}
use Rattle.nir_mean.specs.State.{State}
use Rattle.run_laws.specs.Agree.{basis_in}
use Rattle.run_laws.specs.Known.{Basis, IsEdgeOf, Known, under}
use Rattle.run_laws.specs.Makings.{makings_of}
use Rattle.run_laws.specs.Simulates.{ListGood}

-- ---- at the ways out

-- control came by one of the edges, and what is known holds of its values
pub record KnownBy (basis : Basis) (from : Option BlockId) (state : State) (edges : List Edge) : Type 0 where
  pub edge : Edge
  pub listed : IsEdgeOf edge edges
  pub came : edge.from ≡ from
  pub known : Known basis.kinds basis.makings edge.set state

-- a part is left by one of the edges of the walk; nothing is told of a run that is cut
abbrev pub EndsKnown : Basis → Flow → Exit → Type 0
EndsKnown basis flow (Fall from state) = KnownBy basis from state flow.falls
EndsKnown basis flow (Break from state) = KnownBy basis from state flow.breaks
EndsKnown basis flow (Continue from state) = KnownBy basis from state flow.continues
EndsKnown basis flow (Cut state) = Unit {0}

abbrev pub StaysKnown : Type 1
StaysKnown =
    (basis : Basis) (inputs : List (List ℕ)) (repeats : ℕ) → InputsFit basis.inputs inputs
    → (nodes : Nodes) (edges back : List Edge) → ListGood basis nodes edges back
    → IsReached edges → (from : Option BlockId) (state : State) → KnownBy basis from state (edges ++ back)
    → EndsKnown basis (walk nodes edges) (run_list (under basis inputs repeats) nodes from state)

-- ---- at each point inside

-- what holds of what is behind a part, where control falls to it, and of the next turn of a loop, where there is one
abbrev pub AfterFall : Exit → (Option BlockId → State → Type 0) → Type 0
AfterFall (Fall from state) P = P from state
AfterFall (Break from state) P = Unit {0}
AfterFall (Continue from state) P = Unit {0}
AfterFall (Cut state) P = Unit {0}

abbrev pub AfterTurn : Exit → (Option BlockId → State → Type 0) → Type 0
AfterTurn (Fall from state) P = P from state
AfterTurn (Break from state) P = Unit {0}
AfterTurn (Continue from state) P = P from state
AfterTurn (Cut state) P = Unit {0}

abbrev pub InTurns : ℕ → Part → (Option BlockId → State → Type 0) → Option BlockId → State → Type 0
InTurns zero body P from state = P from state
InTurns (suc n) body P from state = P from state × AfterTurn (body from state) (InTurns n body P)

abbrev pub Chosen : Bool → Type 0 → Type 0 → Type 0
Chosen true first second = first
Chosen false first second = second

abbrev pub BlockFact : Type 1
BlockFact = Block → List Edge → List Edge → Option BlockId → State → Type 0

abbrev pub ConditionFact : Type 1
ConditionFact = ValueId → List Edge → State → Type 0

-- A fact of each block that a run enters, by the edges by which the walk enters it and by all its edges, and of each if that it comes to.
abbrev pub Inside : Setting → BlockFact → ConditionFact → Nodes → List Edge → List Edge → Option BlockId → State → Type 0
Inside m P Q Nil edges back from state = Unit {0}
Inside m P Q (BlockThen b rest) edges back from state =
    P b edges (edges ++ back) from state × AfterFall (run_block m b from state) (Inside m P Q rest (block_flow b edges).falls [])
Inside m P Q (IfThen id condition first second rest) edges back from state =
    Q condition edges state
    × Chosen (nat_eq (scalar state.values condition) 1) (Inside m P Q first edges [] from state) (Inside m P Q second edges [] from state)
    × AfterFall (run_choice (nat_eq (scalar state.values condition) 1) (run_list m first) (run_list m second) from state)
    (Inside m P Q rest (either (walk first edges) (walk second edges)).falls [])
Inside m P Q (LoopThen id body rest) edges back from state =
    InTurns m.repeats (run_list m body) (Inside m P Q body edges (backs (walk body edges))) from state
    × AfterFall (turns m.repeats (run_list m body) from state) (Inside m P Q rest (out_of_loop (walk body edges)).falls [])

-- a block is entered by one of its edges, on whose values what is known holds
abbrev pub BlockKnown : Basis → Block → List Edge → List Edge → Option BlockId → State → Type 0
BlockKnown basis b edges all from state = IsReached edges × KnownBy basis from state all

-- and an if is come to where what is known holds of the values that are defined on every path to it
abbrev pub ConditionKnown : Basis → ValueId → List Edge → State → Type 0
ConditionKnown basis condition edges state = IsReached edges × Known basis.kinds basis.makings (meet edges) state

abbrev pub IsKnownInside : Type 1
IsKnownInside =
    (basis : Basis) (inputs : List (List ℕ)) (repeats : ℕ) → InputsFit basis.inputs inputs
    → (nodes : Nodes) (edges back : List Edge) → ListGood basis nodes edges back
    → IsReached edges → (from : Option BlockId) (state : State) → KnownBy basis from state (edges ++ back)
    → Inside (under basis inputs repeats) (BlockKnown basis) (ConditionKnown basis) nodes edges back from state

-- ---- of valid shaders

-- a valid shader by the kinds of its values and the equations of its instructions
abbrev pub basis_by : Shader → Basis
basis_by s = basis_in s (kind_at s.body) (makings_of (kind_at s.body) s.body)

-- in each run of a valid shader, and where it ends, each value that is defined on every path has what its instruction makes of its sources,
-- and the components that its kind says
pub record IsKnownIn (s : Shader) (inputs buffers : List (List ℕ)) (repeats : ℕ) : Type 0 where
  pub inside : Inside (setting s inputs repeats) (BlockKnown (basis_by s)) (ConditionKnown (basis_by s)) s.body (entry ∷ []) [] None (start s buffers)
  pub ends : EndsKnown (basis_by s) (walk s.body (entry ∷ [])) (run_list (setting s inputs repeats) s.body None (start s buffers))

abbrev pub ValidIsKnown : Type 0
ValidIsKnown =
    (s : Shader) (inputs buffers : List (List ℕ)) (repeats : ℕ) → IsShaped s → Valid s → InputsFit s.inputs inputs → BuffersFit s.buffers buffers
    → IsKnownIn s inputs buffers repeats
