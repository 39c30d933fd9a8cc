-- A change of the parts of a shader in place, and what is left to show of each part so that the changed shader does the same.
use Rattle.std.specs.Prelude.{◌≡◌, ℕ, List, [], ◌∷◌, nat_eq}
use Rattle.std.specs.List.{AllByRecursion}
use Rattle.nir_ir.specs.declared.ids.IfId.{IfId}
use Rattle.nir_ir.specs.declared.ids.ValueId.{ValueId}
use Rattle.nir_ir.specs.declared.instr.Instr.{Instr}
use Rattle.nir_ir.specs.declared.node.Block.{Block}
use Rattle.nir_ir.specs.Definitions.{kind_at}
use Rattle.nir_ir.specs.Items.{items}
use Rattle.nir_ir.specs.Nodes.{Nodes}
use Rattle.nir_ir.specs.Shader.{Shader}
use Rattle.nir_validate.specs.Each.{Each, IsReached}
use Rattle.nir_validate.specs.Edges.{Edge, Set, meet, no_values, set_after, set_after_phis}
use Rattle.nir_validate.specs.Walk.{entry}
use Rattle.walk_laws.specs.PairsLaws.{Change, changed}
use Rattle.nir_mean.specs.Bytes.{BuffersHold}
use Rattle.nir_mean.specs.Outcome.{outcome}
use Rattle.nir_mean.specs.Run.{run_instr, run_instrs, run_phis, scalar}
use Rattle.nir_mean.specs.Same.{InputsFit}
use Rattle.nir_mean.specs.State.{State}
use Rattle.nir_mean.specs.Values.{Values}
use Rattle.run_laws.specs.Follows.{Follows, Naming}
use Rattle.run_laws.specs.KindsLaws.{UsesAlike}
use Rattle.walk_laws.specs.GrownLaws.{IsBelow}
use Rattle.run_laws.specs.Known.{Basis, BlockGood, ConditionGood, InstrGood, IsConditionGood, IsEdgeOf, IsUnder, Known, PartsGood, under}
use Rattle.run_laws.specs.Makings.{Closed}

-- ---- a block and a condition at their places, apart from runs

-- the edge's set is closed
abbrev pub IsClosedEdge : Basis → Edge → Type 0
IsClosedEdge basis edge = Closed basis.makings edge.set

pub record BlockAt (basis : Basis) (b : Block) (edges all : List Edge) : Type 0 where
  pub good : PartsGood basis b edges all
  pub closed : Closed basis.makings (meet edges)
  pub along : AllByRecursion (IsClosedEdge basis) all
  pub under : IsUnder (meet edges) all

pub record ConditionAt (basis : Basis) (condition : ValueId) (edges : List Edge) : Type 0 where
  pub good : IsConditionGood basis condition edges
  pub closed : Closed basis.makings (meet edges)

abbrev pub BlockPlace : Basis → Block → List Edge → List Edge → Type 0
BlockPlace basis b edges all = IsReached edges → BlockAt basis b edges all

abbrev pub ConditionPlace : Basis → ValueId → List Edge → Type 0
ConditionPlace basis condition edges = IsReached edges → ConditionAt basis condition edges

-- a list at its place: its parts are good there, the sets of its edges are closed, and the edges back have no smaller ones
pub record ListGood (basis : Basis) (nodes : Nodes) (edges back : List Edge) : Type 0 where
  pub parts : Each (BlockGood basis) (ConditionGood basis) nodes edges back
  pub closed : AllByRecursion (IsClosedEdge basis) edges
  pub again : AllByRecursion (IsClosedEdge basis) back
  pub below : IsUnder (meet edges) back

-- ---- two runs at a point

-- how the values of two runs are related where those of the set are defined
abbrev pub Relation : Type 1
Relation = Set → Values → Values → Type 0

-- what is known of the first, and that the second is related and has the same world
pub record Tied (basis : Basis) (R : Relation) (set : Set) (s t : State) : Type 0 where
  pub known : Known basis.kinds basis.makings set s
  pub related : R set s.values t.values
  pub world : s.world ≡ t.world

-- what is left to show: what is known goes on by itself
pub record Kept (R : Relation) (set : Set) (s t : State) : Type 0 where
  pub related : R set s.values t.values
  pub world : s.world ≡ t.world

-- all blocks keep their numbers
abbrev pub same_names : Naming
same_names from = from

-- each part that is changed does what it did
pub record Simulates (basis : Basis) (R : Relation) (inputs : List (List ℕ)) (repeats : ℕ) (c : Change) : Type 0 where
  -- fewer values are as well related
  pub less : (a b : Set) (f g : Values) → IsBelow a b → R b f g → R a f g
  -- the instructions in the place of one
  pub instr : (instr : Instr) (set : Set) → InstrGood basis set instr → Closed basis.makings set → (s t : State) → Tied basis R set s t
      → Kept R (set_after instr set) (run_instr (under basis inputs repeats) instr s) (run_instrs (under basis inputs repeats) (c.instr instr) t)
  -- the phis of a block, by each of its edges
  pub phis : (b : Block) (edges all : List Edge) → BlockAt basis b edges all
      → (edge : Edge) → IsEdgeOf edge all → (s t : State) → Tied basis R edge.set s t
      → R (set_after_phis b.phis (meet edges)) (run_phis edge.from b.phis s.values) (run_phis edge.from (c.phis b.phis) t.values)
  -- a condition chooses the same
  pub condition : (id : IfId) (condition : ValueId) (edges : List Edge) → ConditionAt basis condition edges
      → (s t : State) → Tied basis R (meet edges) s t
      → nat_eq (scalar s.values condition) 1 ≡ nat_eq (scalar t.values (c.condition id condition)) 1

-- the changed list follows
abbrev pub ChangedFollow : Type 1
ChangedFollow =
    (basis : Basis) (R : Relation) (inputs : List (List ℕ)) (repeats : ℕ) (c : Change) → InputsFit basis.inputs inputs → Simulates basis R inputs repeats c
    → (nodes : Nodes) (edges back : List Edge) → ListGood basis nodes edges back
    → Follows (under basis inputs repeats) (Tied basis R) same_names nodes (changed c nodes) edges back

-- ---- whole shaders

-- the basis has the kinds of what both shaders use, and the parts of the first are good by it
pub record ChangesTo (basis : Basis) (c : Change) (s t : Shader) : Type 0 where
  pub body : t.body ≡ changed c s.body
  pub outputs : s.outputs ≡ t.outputs
  pub old_kinds : AllByRecursion (UsesAlike (kind_at s.body) basis.kinds) (items s.body)
  pub new_kinds : AllByRecursion (UsesAlike basis.kinds (kind_at t.body)) (items t.body)
  pub good : Each (BlockGood basis) (ConditionGood basis) s.body (entry ∷ []) []

-- nothing is asked of the values of states in which none is defined
abbrev pub RelatesNone : Relation → Type 0
RelatesNone R = (f g : Values) → R no_values f g

-- a shader whose parts are changed so does the same
abbrev pub ChangedDoSame : Type 1
ChangedDoSame =
    (basis : Basis) (R : Relation) (c : Change) (s t : Shader) (inputs buffers : List (List ℕ)) (repeats : ℕ)
    → ChangesTo basis c s t → InputsFit basis.inputs inputs → BuffersHold buffers → RelatesNone R → Simulates basis R inputs repeats c
    → outcome s inputs buffers repeats ≡ outcome t inputs buffers repeats
