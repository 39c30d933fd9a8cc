-- The walk of a renumbered shader is that of the shader: it goes along the same edges, with the same sets under the new numbers.
use Rattle.std.specs.Prelude.{◌≡◌, refl, ℕ, ◌||◌, ◌&&◌, List, [], ◌∷◌, ◌++◌, map, Option, Some, None}
use Rattle.std.specs.List.{AllByRecursion, AllZip}
use Rattle.std.specs.Option.{option_map, option_to_list}
use Rattle.std.proofs.Common.{◌∙◌, ap}
use Rattle.nir_ir.specs.declared.ids.ValueId.{ValueId}
use Rattle.nir_ir.specs.declared.instr.Instr.{Instr}
use Rattle.nir_ir.specs.declared.node.Block.{Block}
use Rattle.nir_ir.specs.declared.node.Jump.{Jump}
use Rattle.nir_ir.specs.declared.node.Jump.TheVariants as jump
use Rattle.nir_ir.specs.declared.node.Phi.{Phi}
use Rattle.nir_ir.specs.Items.{target}
use Rattle.nir_ir.specs.Nodes.{Nodes, Nil, BlockThen, IfThen, LoopThen}
use Rattle.nir_print.specs.Naming.{place}
use Rattle.nir_print.specs.Renumber.{Numbers, new_block, new_block_node, new_instr, new_nodes, new_phi, new_value}
use Rattle.nir_validate.specs.Edges.{Edge, Flow, Set, backs, behind, either, meet, out_of_loop, set_after_instrs, set_after_phis, with_member}
use Rattle.nir_validate.specs.Walk.{block_flow, by_jump, is_empty, out_edges, walk}
use Rattle.print_meaning.proofs.Apart.{BlockApart, IsApart, NodesApart, TargetApart}
use Rattle.print_meaning.proofs.Places.{target-new_instr}

-- the numbers that values, and blocks, get
abbrev pub value_renaming : Numbers → ℕ → ℕ
value_renaming numbers = place numbers.naming.values

abbrev pub block_renaming : Numbers → ℕ → ℕ
block_renaming numbers = place numbers.naming.blocks

-- a set has the new number of a value just where the other had the value
abbrev pub Agrees : Numbers → Set → Set → Type 0
Agrees numbers old new = (v : ℕ) → new (value_renaming numbers v) ≡ old v

-- an edge comes from the block under its new number, and its set agrees
pub record EdgeRenamed (numbers : Numbers) (old new : Edge) : Type 0 where
  pub from : new.from ≡ option_map (new_block numbers) old.from
  pub apart : AllByRecursion (IsApart (block_renaming numbers)) (map (λ id. id.0) (option_to_list old.from))
  pub set : Agrees numbers old.set new.set

abbrev pub EdgesRenamed : Numbers → List Edge → List Edge → Type 0
EdgesRenamed numbers old new = AllZip (EdgeRenamed numbers) old new

pub record FlowRenamed (numbers : Numbers) (old new : Flow) : Type 0 where
  pub falls : EdgesRenamed numbers old.falls new.falls
  pub breaks : EdgesRenamed numbers old.breaks new.breaks
  pub continues : EdgesRenamed numbers old.continues new.continues

zip_append : {A B : Type 0} (R : A → B → Type 0) (a c : List A) (b d : List B) → AllZip R a b → AllZip R c d → AllZip R (a ++ c) (b ++ d)
zip_append R [] c [] d h k = k
zip_append R [] c (y ∷ b) d h k = absurd h
zip_append R (x ∷ a) c [] d h k = absurd h
zip_append R (x ∷ a) c (y ∷ b) d h k = (h.0, zip_append R a c b d h.1 k)

module _ (numbers : Numbers) where
  -- ---- sets

  pub member-agrees : (id : Option ValueId) (old new : Set) → AllByRecursion (λ id. IsApart (value_renaming numbers) id.0) (option_to_list id) → Agrees numbers old new
      → Agrees numbers (with_member id old) (with_member (option_map (new_value numbers) id) new)
  member-agrees None old new apart agrees = agrees
  member-agrees (Some id) old new apart agrees = λ v. λ i. apart.0 v i || agrees v i

  pub phis-agree : (phis : List Phi) (old new : Set) → AllByRecursion (λ phi. IsApart (value_renaming numbers) phi.value.0) phis → Agrees numbers old new
      → Agrees numbers (set_after_phis phis old) (set_after_phis (map (new_phi numbers) phis) new)
  phis-agree [] old new apart agrees = agrees
  phis-agree (phi ∷ phis) old new apart agrees =
      phis-agree phis (with_member (Some phi.value) old) (with_member (Some (new_value numbers phi.value)) new) apart.1 (member-agrees (Some phi.value) old new (apart.0, tt) agrees)

  pub instr-agrees : (instr : Instr) (old new : Set) → TargetApart (value_renaming numbers) instr → Agrees numbers old new
      → Agrees numbers (with_member (target instr) old) (with_member (target (new_instr numbers instr)) new)
  instr-agrees instr old new apart agrees = λ v. ap (λ id. with_member id new (value_renaming numbers v)) (target-new_instr numbers instr) ∙ member-agrees (target instr) old new apart agrees v

  pub instrs-agree : (instrs : List Instr) (old new : Set) → AllByRecursion (TargetApart (value_renaming numbers)) instrs → Agrees numbers old new
      → Agrees numbers (set_after_instrs instrs old) (set_after_instrs (map (new_instr numbers) instrs) new)
  instrs-agree [] old new apart agrees = agrees
  instrs-agree (instr ∷ instrs) old new apart agrees =
      instrs-agree instrs (with_member (target instr) old) (with_member (target (new_instr numbers instr)) new) apart.1 (instr-agrees instr old new apart.0 agrees)

  pub meet-agrees : (old new : List Edge) → EdgesRenamed numbers old new → Agrees numbers (meet old) (meet new)
  meet-agrees [] [] h = λ v. refl
  meet-agrees [] (edge ∷ new) h = absurd h
  meet-agrees (edge ∷ old) [] h = absurd h
  meet-agrees (edge ∷ old) (other ∷ new) h = λ v. λ i. h.0.set v i && meet-agrees old new h.1 v i

  pub is_empty-renamed : (old new : List Edge) → EdgesRenamed numbers old new → is_empty new ≡ is_empty old
  is_empty-renamed [] [] h = refl
  is_empty-renamed [] (edge ∷ new) h = absurd h
  is_empty-renamed (edge ∷ old) [] h = absurd h
  is_empty-renamed (edge ∷ old) (other ∷ new) h = refl

  pub edges_append : (a b c d : List Edge) → EdgesRenamed numbers a b → EdgesRenamed numbers c d → EdgesRenamed numbers (a ++ c) (b ++ d)
  edges_append a b c d h k = zip_append (EdgeRenamed numbers) a c b d h k

  -- ---- edges out of a block

  out_edges-renamed : (b : Block) (old new : List Edge) → BlockApart (value_renaming numbers) (block_renaming numbers) b → EdgesRenamed numbers old new
      → EdgesRenamed numbers (out_edges b old) (out_edges (new_block_node numbers b) new)
  out_edges-renamed b [] [] apart h = tt
  out_edges-renamed b [] (edge ∷ new) apart h = absurd h
  out_edges-renamed b (edge ∷ old) [] apart h = absurd h
  out_edges-renamed b (edge ∷ old) (other ∷ new) apart h =
      let met = meet-agrees (edge ∷ old) (other ∷ new) h in
      let past_phis = phis-agree b.phis (meet (edge ∷ old)) (meet (other ∷ new)) apart.phis met in (
        record {
          from = refl;
          apart = (apart.id, tt);
          set = instrs-agree b.instrs (set_after_phis b.phis (meet (edge ∷ old))) (set_after_phis (map (new_phi numbers) b.phis) (meet (other ∷ new))) apart.instrs past_phis;
        },
        tt,
      )

  by_jump-renamed : (next : Option Jump) (old new : List Edge) → EdgesRenamed numbers old new → FlowRenamed numbers (by_jump next old) (by_jump next new)
  by_jump-renamed None old new h = record { falls = h; breaks = tt; continues = tt }
  by_jump-renamed (Some jump.Break) old new h = record { falls = tt; breaks = h; continues = tt }
  by_jump-renamed (Some jump.Continue) old new h = record { falls = tt; breaks = tt; continues = h }

  pub block_flow-renamed : (b : Block) (old new : List Edge) → BlockApart (value_renaming numbers) (block_renaming numbers) b → EdgesRenamed numbers old new
      → FlowRenamed numbers (block_flow b old) (block_flow (new_block_node numbers b) new)
  block_flow-renamed b old new apart h = by_jump-renamed b.jump (out_edges b old) (out_edges (new_block_node numbers b) new) (out_edges-renamed b old new apart h)

  -- ---- edges out of nodes

  behind-renamed : (old new : Flow) (old_next new_next : List Edge → Flow) → FlowRenamed numbers old new → FlowRenamed numbers (old_next old.falls) (new_next new.falls)
      → FlowRenamed numbers (behind old old_next) (behind new new_next)
  behind-renamed old new old_next new_next h rest = record {
    falls = rest.falls;
    breaks = edges_append old.breaks new.breaks (old_next old.falls).breaks (new_next new.falls).breaks h.breaks rest.breaks;
    continues = edges_append old.continues new.continues (old_next old.falls).continues (new_next new.falls).continues h.continues rest.continues;
  }

  pub either-renamed : (first second new_first new_second : Flow) → FlowRenamed numbers first new_first → FlowRenamed numbers second new_second
      → FlowRenamed numbers (either first second) (either new_first new_second)
  either-renamed first second new_first new_second one two = record {
    falls = edges_append first.falls new_first.falls second.falls new_second.falls one.falls two.falls;
    breaks = edges_append first.breaks new_first.breaks second.breaks new_second.breaks one.breaks two.breaks;
    continues = edges_append first.continues new_first.continues second.continues new_second.continues one.continues two.continues;
  }

  pub out_of_loop-renamed : (old new : Flow) → FlowRenamed numbers old new → FlowRenamed numbers (out_of_loop old) (out_of_loop new)
  out_of_loop-renamed old new h = record { falls = h.breaks; breaks = tt; continues = tt }

  pub backs-renamed : (old new : Flow) → FlowRenamed numbers old new → EdgesRenamed numbers (backs old) (backs new)
  backs-renamed old new h = edges_append old.falls new.falls old.continues new.continues h.falls h.continues

  pub walk-renamed : (nodes : Nodes) (old new : List Edge) → NodesApart (value_renaming numbers) (block_renaming numbers) nodes → EdgesRenamed numbers old new
      → FlowRenamed numbers (walk nodes old) (walk (new_nodes numbers nodes) new)
  walk-renamed Nil old new apart h = record { falls = h; breaks = tt; continues = tt }
  walk-renamed (BlockThen b rest) old new apart h =
      let one : Flow = block_flow b old in
      let two : Flow = block_flow (new_block_node numbers b) new in
      let here : FlowRenamed numbers one two = block_flow-renamed b old new apart.0 h in
      behind-renamed one two (walk rest) (walk (new_nodes numbers rest)) here (walk-renamed rest one.falls two.falls apart.1 here.falls)
  walk-renamed (IfThen id condition first second rest) old new apart h =
      let one : Flow = either (walk first old) (walk second old) in
      let two : Flow = either (walk (new_nodes numbers first) new) (walk (new_nodes numbers second) new) in
      let here : FlowRenamed numbers one two =
      either-renamed (walk first old) (walk second old) (walk (new_nodes numbers first) new) (walk (new_nodes numbers second) new) (walk-renamed first old new apart.0 h) (walk-renamed second old new apart.1 h) in
      behind-renamed one two (walk rest) (walk (new_nodes numbers rest)) here (walk-renamed rest one.falls two.falls apart.2 here.falls)
  walk-renamed (LoopThen id body rest) old new apart h =
      let one : Flow = out_of_loop (walk body old) in
      let two : Flow = out_of_loop (walk (new_nodes numbers body) new) in
      let here : FlowRenamed numbers one two = out_of_loop-renamed (walk body old) (walk (new_nodes numbers body) new) (walk-renamed body old new apart.0 h) in
      behind-renamed one two (walk rest) (walk (new_nodes numbers rest)) here (walk-renamed rest one.falls two.falls apart.1 here.falls)
