-- What holds of the edges by which a list is entered, and is kept by each of its blocks, holds of all edges of the walk.
use Rattle.std.specs.Prelude.{◌≡◌, ◌⊎◌, refl, true, false, is_some, List, [], ◌∷◌, ◌++◌, Option, Some, None}
use Rattle.std.specs.List.{AllByRecursion}
use Rattle.std.proofs.Common.{sym, inl, inr}
use Rattle.std.proofs.lemmas.Bool.{true≢false}
use Rattle.nir_ir.specs.declared.ids.ValueId.{ValueId}
use Rattle.nir_ir.specs.declared.node.Block.{Block}
use Rattle.nir_ir.specs.declared.node.Jump.{Jump}
use Rattle.nir_ir.specs.declared.node.Jump.TheVariants as jump
use Rattle.nir_ir.specs.declared.node.Phi.{Phi}
use Rattle.nir_ir.specs.Nodes.{Nodes, Nil, BlockThen, IfThen, LoopThen}
use Rattle.nir_ir.specs.Shader.{Shader}
use Rattle.nir_validate.specs.Edges.{Edge, Flow, backs, behind, either, out_of_loop}
use Rattle.list_laws.specs.AllLaws.{all_append}
use Rattle.nir_validate.specs.Valid.{Valid}
use Rattle.nir_validate.specs.Walk.{block_flow, by_jump, entry, is_idle, out_edges, walk}
use Rattle.nir_validate.specs.Each.{PhiWalked}
use Rattle.nir_validate.specs.Alternates.{Alternates}
use Rattle.walk_laws.specs.PartsLaws.{parts-from_valid}
use Rattle.nir_validate.specs.Each.{BlockDefines, ConditionDefined, Each, Lives}
use Rattle.walk_laws.specs.EachLaws.{each_map}

-- of each edge by which a part is left
pub record AllFlow (P : Edge → Type 0) (flow : Flow) : Type 0 where
  pub falls : AllByRecursion P flow.falls
  pub breaks : AllByRecursion P flow.breaks
  pub continues : AllByRecursion P flow.continues

jump_all : (P : Edge → Type 0) (jump : Option Jump) (edges : List Edge) → AllByRecursion P edges → AllFlow P (by_jump jump edges)
jump_all P None edges all = record { falls = all; breaks = tt; continues = tt }
jump_all P (Some jump.Break) edges all = record { falls = tt; breaks = all; continues = tt }
jump_all P (Some jump.Continue) edges all = record { falls = tt; breaks = tt; continues = all }

behind_all : (P : Edge → Type 0) (flow : Flow) (next : List Edge → Flow) → AllFlow P flow → AllFlow P (next flow.falls) → AllFlow P (behind flow next)
behind_all P flow next own end = record {
  falls = end.falls;
  breaks = all_append P flow.breaks (next flow.falls).breaks own.breaks end.breaks;
  continues = all_append P flow.continues (next flow.falls).continues own.continues end.continues;
}

either_all : (P : Edge → Type 0) (first second : Flow) → AllFlow P first → AllFlow P second → AllFlow P (either first second)
either_all P first second one two = record {
  falls = all_append P first.falls second.falls one.falls two.falls;
  breaks = all_append P first.breaks second.breaks one.breaks two.breaks;
  continues = all_append P first.continues second.continues one.continues two.continues;
}

-- a block whose fact holds keeps what holds of edges
abbrev pub BlocksKeep : (Edge → Type 0) → (Block → List Edge → List Edge → Type 0) → Type 0
BlocksKeep P G = (b : Block) (edges all : List Edge) → G b edges all → AllByRecursion P edges → AllByRecursion P (out_edges b edges)

pub each_along : (P : Edge → Type 0) (G : Block → List Edge → List Edge → Type 0) (H : ValueId → List Edge → Type 0) → BlocksKeep P G
    → (nodes : Nodes) (edges back : List Edge) → Each G H nodes edges back → AllByRecursion P edges → AllFlow P (walk nodes edges)
each_along P G H keep Nil edges back each all = record { falls = all; breaks = tt; continues = tt }
each_along P G H keep (BlockThen b rest) edges back each all =
    let own = jump_all P b.jump (out_edges b edges) (keep b edges (edges ++ back) each.0 all) in
    behind_all P (block_flow b edges) (walk rest) own (each_along P G H keep rest (block_flow b edges).falls [] each.1 own.falls)
each_along P G H keep (IfThen id condition first second rest) edges back each all =
    let flow = either (walk first edges) (walk second edges) in
    let own = either_all P (walk first edges) (walk second edges) (each_along P G H keep first edges [] each.2 all) (each_along P G H keep second edges [] each.3 all) in
    behind_all P flow (walk rest) own (each_along P G H keep rest flow.falls [] each.4 own.falls)
each_along P G H keep (LoopThen id body rest) edges back each all =
    let flow = out_of_loop (walk body edges) in
    let inside = each_along P G H keep body edges (backs (walk body edges)) each.1 all in
    let own : AllFlow P flow = record { falls = inside.breaks; breaks = tt; continues = tt } in
    behind_all P flow (walk rest) own (each_along P G H keep rest flow.falls [] each.2 own.falls)

-- and so at each block and at each condition
abbrev pub With : (Edge → Type 0) → (Block → List Edge → List Edge → Type 0) → Block → List Edge → List Edge → Type 0
With P G b edges all = G b edges all × AllByRecursion P edges × AllByRecursion P all

abbrev pub ConditionWith : (Edge → Type 0) → (ValueId → List Edge → Type 0) → ValueId → List Edge → Type 0
ConditionWith P H condition edges = H condition edges × AllByRecursion P edges

pub each_with : (P : Edge → Type 0) (G : Block → List Edge → List Edge → Type 0) (H : ValueId → List Edge → Type 0) → BlocksKeep P G
    → (nodes : Nodes) (edges back : List Edge) → Each G H nodes edges back → AllByRecursion P edges → AllByRecursion P back → Each (With P G) (ConditionWith P H) nodes edges back
each_with P G H keep Nil edges back each all behind = each
each_with P G H keep (BlockThen b rest) edges back each all behind =
    let own = jump_all P b.jump (out_edges b edges) (keep b edges (edges ++ back) each.0 all) in
    ((each.0, all, all_append P edges back all behind), each_with P G H keep rest (block_flow b edges).falls [] each.1 own.falls tt)
each_with P G H keep (IfThen id condition first second rest) edges back each all behind =
    let own = either_all P (walk first edges) (walk second edges) (each_along P G H keep first edges [] each.2 all) (each_along P G H keep second edges [] each.3 all) in (
      each.0,
      (each.1, all),
      each_with P G H keep first edges [] each.2 all tt,
      each_with P G H keep second edges [] each.3 all tt,
      each_with P G H keep rest (either (walk first edges) (walk second edges)).falls [] each.4 own.falls tt,
    )
each_with P G H keep (LoopThen id body rest) edges back each all behind =
    let inside = each_along P G H keep body edges (backs (walk body edges)) each.1 all in (
      each.0,
      each_with P G H keep body edges (backs (walk body edges)) each.1 all (all_append P (walk body edges).falls (walk body edges).continues inside.falls inside.continues),
      each_with P G H keep rest (out_of_loop (walk body edges)).falls [] each.2 inside.breaks tt,
    )

-- an edge that comes from a block, and not from the entry
abbrev pub HasBlock : Edge → Type 0
HasBlock edge = is_some edge.from ≡ true

abbrev pub BlockNamed : Block → List Edge → List Edge → Type 0
BlockNamed b edges all = AllByRecursion HasBlock edges × AllByRecursion HasBlock all

abbrev pub ConditionNamed : ValueId → List Edge → Type 0
ConditionNamed condition edges = AllByRecursion HasBlock edges

out_named : (b : Block) (edges : List Edge) → AllByRecursion HasBlock (out_edges b edges)
out_named b [] = tt
out_named b (edge ∷ edges) = (refl, tt)

-- the first block of a shader has no phi, and all edges behind it come from blocks
pub record FirstOpens (b : Block) (rest : Nodes) : Type 0 where
  pub phis : b.phis ≡ []
  pub named : Each BlockNamed ConditionNamed rest (block_flow b (entry ∷ [])).falls []

abbrev pub ValidFirstOpens : Type 0
ValidFirstOpens = (s : Shader) → Valid s → (b : Block) × (rest : Nodes) × (s.body ≡ BlockThen b rest) × FirstOpens b rest

no_phi : (phis : List Phi) → AllByRecursion (PhiWalked (entry ∷ [])) phis → phis ≡ []
no_phi [] walked = refl
no_phi (phi ∷ phis) walked = absurd (true≢false (sym walked.0.names))

first_opens : (body : Nodes) → Alternates body → Each BlockDefines ConditionDefined body (entry ∷ []) [] → (b : Block) × (rest : Nodes) × (body ≡ BlockThen b rest) × FirstOpens b rest
first_opens Nil turns each = absurd turns
first_opens (BlockThen b rest) turns each =
    let falls = (block_flow b (entry ∷ [])).falls in (
      b,
      rest,
      refl,
      record {
        phis = no_phi b.phis (each.0 refl).0;
        named = each_map (With HasBlock BlockDefines) BlockNamed (ConditionWith HasBlock ConditionDefined) ConditionNamed (λ b p q here. (here.1, here.2)) (λ c p here. here.1) rest falls []
            (each_with HasBlock BlockDefines ConditionDefined (λ b edges all here own. out_named b edges) rest falls [] each.1
            (jump_all HasBlock b.jump (out_edges b (entry ∷ [])) (out_named b (entry ∷ []))).falls tt);
      },
    )
first_opens (IfThen id condition first second rest) turns each = absurd turns
first_opens (LoopThen id body rest) turns each = absurd turns

pub valid-first_opens : ValidFirstOpens
valid-first_opens s valid = let parts = parts-from_valid s valid in first_opens s.body parts.order parts.whole.defines

-- a list that is not entered is empty, or one idle block
abbrev pub Rests : Nodes → Type 0
Rests Nil = Unit {0}
Rests (BlockThen b rest) = is_idle b rest ≡ true
Rests (IfThen id condition first second rest) = ⊥
Rests (LoopThen id body rest) = ⊥

pub lives_none : (nodes : Nodes) → Lives nodes [] → Rests nodes
lives_none Nil lives = tt
lives_none (BlockThen b rest) lives = block_rests b rest lives.0
  where
    block_rests : (b : Block) (rest : Nodes) → (true ≡ false) ⊎ (is_idle b rest ≡ true) → is_idle b rest ≡ true
    block_rests b rest (inl never) = absurd (true≢false never)
    block_rests b rest (inr idle) = idle
lives_none (IfThen id condition first second rest) lives = true≢false lives.0
lives_none (LoopThen id body rest) lives = true≢false lives.0
