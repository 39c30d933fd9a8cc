-- Two lists of nodes of which the second follows the first: from states that are related they end alike, and in states that are related on
-- the values of the edge by which they ended.
-- It is a simulation, as in proofs of compilers, along the edges of the walk.
use Rattle.std.specs.Prelude.{◌≡◌, ◌⊎◌, List, [], ◌++◌, Option, Some, nat_eq}
use Rattle.nir_ir.specs.declared.ids.BlockId.{BlockId}
use Rattle.nir_ir.specs.declared.ids.ValueId.{ValueId}
use Rattle.nir_ir.specs.declared.node.Block.{Block}
use Rattle.nir_ir.specs.Nodes.{Nodes, Nil, BlockThen, IfThen, LoopThen}
use Rattle.nir_validate.specs.Each.{IsReached}
use Rattle.nir_validate.specs.Edges.{Edge, Flow, Set, backs, either, meet, out_of_loop, set_after_instrs, set_after_phis}
use Rattle.nir_validate.specs.Walk.{block_flow, walk}
use Rattle.nir_mean.specs.Run.{Break, Continue, Cut, Exit, Fall, Setting, run_list, scalar}
use Rattle.nir_mean.specs.State.{State}
use Rattle.walk_laws.specs.GrownLaws.{IsBelow}
use Rattle.run_laws.specs.Known.{IsEdgeOf, ended}

-- what holds of two states at a point at which the values of the set are defined
abbrev pub Between : Type 1
Between = Set → State → State → Type 0

-- how the second run names the blocks of the first
abbrev pub Naming : Type 0
Naming = Option BlockId → Option BlockId

-- control came by one of the edges, from its block, and the states are related on its values
pub record Through (I : Between) (from : Option BlockId) (s t : State) (edges : List Edge) : Type 0 where
  pub edge : Edge
  pub listed : IsEdgeOf edge edges
  pub came : edge.from ≡ from
  pub holds : I edge.set s t

-- both runs end alike; a run that is cut tells its world alone
abbrev pub Related : Between → Naming → Flow → Exit → Exit → Type 0
Related I ρ flow (Fall from s) (Fall other t) = (ρ from ≡ other) × Through I from s t flow.falls
Related I ρ flow (Break from s) (Break other t) = (ρ from ≡ other) × Through I from s t flow.breaks
Related I ρ flow (Continue from s) (Continue other t) = (ρ from ≡ other) × Through I from s t flow.continues
Related I ρ flow (Cut s) (Cut t) = s.world ≡ t.world
Related I ρ flow _ _ = ⊥

-- the second list does what the first does, where the walk enters the first by these edges, and comes back to it by the others
abbrev pub Follows : Setting → Between → Naming → Nodes → Nodes → List Edge → List Edge → Type 0
Follows m I ρ first second edges back =
    IsReached edges → (from : Option BlockId) (s t : State) → Through I from s t (edges ++ back)
    → Related I ρ (walk first edges) (run_list m first from s) (run_list m second (ρ from) t)

-- a block, and the block in its place
pub record BlocksAlike (m : Setting) (I : Between) (ρ : Naming) (b c : Block) (edges all : List Edge) : Type 0 where
  pub id : ρ (Some b.id) ≡ Some c.id
  pub jump : b.jump ≡ c.jump
  pub keeps : IsReached edges → (from : Option BlockId) (s t : State) → Through I from s t all
      → I (set_after_instrs b.instrs (set_after_phis b.phis (meet edges))) (ended m b from s) (ended m c (ρ from) t)

-- a condition, and the condition in its place: both choose the same
abbrev pub ConditionsAlike : Between → ValueId → ValueId → List Edge → Type 0
ConditionsAlike I condition other edges =
    IsReached edges → (s t : State) → I (meet edges) s t → nat_eq (scalar s.values condition) 1 ≡ nat_eq (scalar t.values other) 1

-- Two lists that are alike part by part. In place of going on by parts, what is to be shown may be given for all that is left of a list:
-- there a change of the tree enters.
abbrev pub Alike : Setting → Between → Naming → Nodes → Nodes → List Edge → List Edge → Type 0
Alike m I ρ Nil Nil edges back = Follows m I ρ Nil Nil edges back ⊎ (back ≡ [])
Alike m I ρ (BlockThen b rest) (BlockThen c more) edges back =
    Follows m I ρ (BlockThen b rest) (BlockThen c more) edges back
    ⊎ (BlocksAlike m I ρ b c edges (edges ++ back) × Alike m I ρ rest more (block_flow b edges).falls [])
Alike m I ρ (IfThen id condition first second rest) (IfThen id' other first' second' more) edges back =
    Follows m I ρ (IfThen id condition first second rest) (IfThen id' other first' second' more) edges back
    ⊎ ((back ≡ []) × ConditionsAlike I condition other edges × Alike m I ρ first first' edges [] × Alike m I ρ second second' edges []
    × Alike m I ρ rest more (either (walk first edges) (walk second edges)).falls [])
Alike m I ρ (LoopThen id body rest) (LoopThen id' body' more) edges back =
    Follows m I ρ (LoopThen id body rest) (LoopThen id' body' more) edges back
    ⊎ ((back ≡ []) × Alike m I ρ body body' edges (backs (walk body edges)) × Alike m I ρ rest more (out_of_loop (walk body edges)).falls [])
Alike m I ρ first second edges back = Follows m I ρ first second edges back

-- related states have one world, and stay related where the set shrinks
pub record IsSimulation (I : Between) : Type 0 where
  pub worlds : (set : Set) (s t : State) → I set s t → s.world ≡ t.world
  pub less : (a b : Set) (s t : State) → IsBelow a b → I b s t → I a s t

-- lists that are alike part by part follow one another
abbrev pub AlikeFollow : Type 1
AlikeFollow =
    (m : Setting) (I : Between) (ρ : Naming) → IsSimulation I → (first second : Nodes) (edges back : List Edge)
    → Alike m I ρ first second edges back → Follows m I ρ first second edges back
