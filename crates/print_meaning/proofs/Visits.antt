-- What the second round finds kept at each item of a shader it finds kept at each item of the renumbered one.
use Rattle.std.specs.Prelude.{◌≡◌, refl, Bool, not, ◌||◌, ◌&&◌, is_none, List, [], ◌∷◌, ◌++◌, map, Option, Some, None}
use Rattle.std.specs.List.{AllByRecursion, list_all}
use Rattle.std.proofs.Common.{◌∙◌, ap}
use Rattle.nir_ir.specs.declared.ids.ValueId.{ValueId}
use Rattle.nir_ir.specs.declared.instr.Instr.{Instr}
use Rattle.nir_ir.specs.declared.node.Block.{Block}
use Rattle.nir_ir.specs.declared.node.Jump.{Jump}
use Rattle.nir_ir.specs.declared.node.Phi.{Phi}
use Rattle.nir_ir.specs.Items.{BlockHead, reads}
use Rattle.nir_ir.specs.Nodes.{Nodes, Nil, BlockThen, IfThen, LoopThen}
use Rattle.list_laws.specs.AllLaws.{all_append, all_back, all_front}
use Rattle.nir_print.specs.Renumber.{Numbers, new_block_node, new_instr, new_nodes, new_phi, new_value}
use Rattle.nir_validate.specs.Edges.{Edge, Flow, Set, backs, either, meet, out_of_loop, set_after, set_after_instrs, set_after_phis}
use Rattle.nir_validate.specs.Kept.{VisitKept}
use Rattle.nir_validate.specs.Walk.{Visit, block_flow, is_empty, is_idle, visit_block, visit_instrs, visit_jump, visit_phis, visits, walk}
use Rattle.print_meaning.proofs.Apart.{BlockApart, NodesApart, TargetApart}
use Rattle.print_meaning.proofs.InstrReads.{reads-new_instr}
use Rattle.print_meaning.proofs.Sources.{sources_defined-renamed, sources_match-renamed}
use Rattle.print_meaning.proofs.Walk.{Agrees, EdgesRenamed, FlowRenamed, backs-renamed, block_flow-renamed, block_renaming, edges_append, either-renamed, instr-agrees, is_empty-renamed, meet-agrees, out_of_loop-renamed, phis-agree, value_renaming, walk-renamed}

empty_map : {A B : Type 0} (f : A → B) (list : List A) → is_empty (map f list) ≡ is_empty list
empty_map f [] = refl
empty_map f (a ∷ list) = refl

module _ (numbers : Numbers) where
  -- ---- the items of a block

  in_set : (list : List ValueId) (old new : Set) → Agrees numbers old new → list_all (λ id. new id.0) (map (new_value numbers) list) ≡ list_all (λ id. old id.0) list
  in_set [] old new agrees = refl
  in_set (id ∷ list) old new agrees = λ i. agrees id.0 i && in_set list old new agrees i

  phis_kept : (phis : List Phi) (edges new_edges : List Edge) (set new_set : Set) → EdgesRenamed numbers edges new_edges
      → AllByRecursion VisitKept (visit_phis edges set phis) → AllByRecursion VisitKept (visit_phis new_edges new_set (map (new_phi numbers) phis))
  phis_kept [] edges new_edges set new_set h kept = tt
  phis_kept (phi ∷ phis) edges new_edges set new_set h kept = (
    record { left = refl; sources = sources_match-renamed numbers phi edges new_edges h kept.0.sources; uses = sources_defined-renamed numbers phi edges new_edges h kept.0.uses },
    phis_kept phis edges new_edges set new_set h kept.1,
  )

  instrs_kept : (instrs : List Instr) (edges new_edges : List Edge) (set new_set : Set) → AllByRecursion (TargetApart (value_renaming numbers)) instrs → Agrees numbers set new_set
      → AllByRecursion VisitKept (visit_instrs edges set instrs) → AllByRecursion VisitKept (visit_instrs new_edges new_set (map (new_instr numbers) instrs))
  instrs_kept [] edges new_edges set new_set apart agrees kept = tt
  instrs_kept (instr ∷ instrs) edges new_edges set new_set apart agrees kept = (
    record { left = refl; sources = refl; uses = ap (list_all (λ id. new_set id.0)) (reads-new_instr numbers instr) ∙ in_set (reads instr) set new_set agrees ∙ kept.0.uses },
    instrs_kept instrs edges new_edges (set_after instr set) (set_after (new_instr numbers instr) new_set) apart.1 (instr-agrees numbers instr set new_set apart.0 agrees) kept.1,
  )

  jump_kept : (next : Option Jump) (edges : List Edge) (set : Set) → AllByRecursion VisitKept (visit_jump edges set next)
  jump_kept None edges set = tt
  jump_kept (Some next) edges set = (record { left = refl; sources = refl; uses = refl }, tt)

  block_kept : (b : Block) (edges new_edges : List Edge) (set new_set : Set) (idle new_idle : Bool) → BlockApart (value_renaming numbers) (block_renaming numbers) b
      → EdgesRenamed numbers edges new_edges → Agrees numbers set new_set → new_idle ≡ idle
      → AllByRecursion VisitKept (visit_block edges set idle b) → AllByRecursion VisitKept (visit_block new_edges new_set new_idle (new_block_node numbers b))
  block_kept b edges new_edges set new_set idle new_idle apart h agrees same kept =
      let before : List Visit = visit_phis edges set b.phis in
      let past_phis : Set = set_after_phis b.phis set in
      let inner : List Visit = visit_instrs edges past_phis b.instrs in
      let behind : List Visit = visit_jump edges (set_after_instrs b.instrs past_phis) b.jump in
      let head : Visit = record { item = BlockHead b.id; edges = edges; set = set; idle = idle } in
      let front = all_front VisitKept (head ∷ before ++ inner) behind kept in
      let new_before : List Visit = visit_phis new_edges new_set (map (new_phi numbers) b.phis) in
      let new_past_phis : Set = set_after_phis (map (new_phi numbers) b.phis) new_set in
      let new_inner : List Visit = visit_instrs new_edges new_past_phis (map (new_instr numbers) b.instrs) in
      let new_behind : List Visit = visit_jump new_edges (set_after_instrs (map (new_instr numbers) b.instrs) new_past_phis) b.jump in (
        record { left = (λ i. not (is_empty-renamed numbers edges new_edges h i) || same i) ∙ kept.0.left; sources = refl; uses = refl },
        all_append VisitKept (new_before ++ new_inner) new_behind
            (all_append VisitKept new_before new_inner
            (phis_kept b.phis edges new_edges set new_set h (all_front VisitKept before inner front.1))
            (instrs_kept b.instrs edges new_edges past_phis new_past_phis apart.instrs (phis-agree numbers b.phis set new_set apart.phis agrees) (all_back VisitKept before inner front.1)))
            (jump_kept b.jump new_edges (set_after_instrs (map (new_instr numbers) b.instrs) new_past_phis)),
      )

  is_idle-renamed : (b : Block) (rest : Nodes) → is_idle (new_block_node numbers b) (new_nodes numbers rest) ≡ is_idle b rest
  is_idle-renamed b Nil = λ i. empty_map (new_phi numbers) b.phis i && empty_map (new_instr numbers) b.instrs i && is_none b.jump
  is_idle-renamed b (BlockThen other rest) = refl
  is_idle-renamed b (IfThen id condition first second rest) = refl
  is_idle-renamed b (LoopThen id body rest) = refl

  -- ---- the items of nodes

  pub nodes_kept : (nodes : Nodes) (edges new_edges back new_back : List Edge) → NodesApart (value_renaming numbers) (block_renaming numbers) nodes
      → EdgesRenamed numbers edges new_edges → EdgesRenamed numbers back new_back
      → AllByRecursion VisitKept (visits nodes edges back) → AllByRecursion VisitKept (visits (new_nodes numbers nodes) new_edges new_back)
  nodes_kept Nil edges new_edges back new_back apart h k kept = tt
  nodes_kept (BlockThen b rest) edges new_edges back new_back apart h k kept =
      let own : List Visit = visit_block (edges ++ back) (meet edges) (is_idle b rest) b in
      let next : List Visit = visits rest (block_flow b edges).falls [] in
      let new_b : Block = new_block_node numbers b in
      let new_own : List Visit = visit_block (new_edges ++ new_back) (meet new_edges) (is_idle new_b (new_nodes numbers rest)) new_b in
      let new_next : List Visit = visits (new_nodes numbers rest) (block_flow new_b new_edges).falls [] in
      let flow = block_flow-renamed numbers b edges new_edges apart.0 h in
      all_append VisitKept new_own new_next
      (block_kept b (edges ++ back) (new_edges ++ new_back) (meet edges) (meet new_edges) (is_idle b rest) (is_idle new_b (new_nodes numbers rest)) apart.0
      (edges_append numbers edges new_edges back new_back h k) (meet-agrees numbers edges new_edges h) (is_idle-renamed b rest) (all_front VisitKept own next kept))
      (nodes_kept rest (block_flow b edges).falls (block_flow new_b new_edges).falls [] [] apart.1 flow.falls tt (all_back VisitKept own next kept))
  nodes_kept (IfThen id condition first second rest) edges new_edges back new_back apart h k kept =
      let flow : Flow = either (walk first edges) (walk second edges) in
      let one : List Visit = visits first edges [] in
      let two : List Visit = visits second edges [] in
      let next : List Visit = visits rest flow.falls [] in
      let both_lists = all_front VisitKept (one ++ two) next kept.1 in
      let new_first : Nodes = new_nodes numbers first in
      let new_second : Nodes = new_nodes numbers second in
      let new_flow : Flow = either (walk new_first new_edges) (walk new_second new_edges) in
      let new_one : List Visit = visits new_first new_edges [] in
      let new_two : List Visit = visits new_second new_edges [] in
      let new_next : List Visit = visits (new_nodes numbers rest) new_flow.falls [] in
      let flows : FlowRenamed numbers flow new_flow =
      either-renamed numbers (walk first edges) (walk second edges) (walk new_first new_edges) (walk new_second new_edges) (walk-renamed numbers first edges new_edges apart.0 h) (walk-renamed numbers second edges new_edges apart.1 h) in (
        record { left = ap not (is_empty-renamed numbers edges new_edges h) ∙ kept.0.left; sources = refl; uses = meet-agrees numbers edges new_edges h condition.0 ∙ kept.0.uses },
        all_append VisitKept (new_one ++ new_two) new_next
            (all_append VisitKept new_one new_two
            (nodes_kept first edges new_edges [] [] apart.0 h tt (all_front VisitKept one two both_lists))
            (nodes_kept second edges new_edges [] [] apart.1 h tt (all_back VisitKept one two both_lists)))
            (nodes_kept rest flow.falls new_flow.falls [] [] apart.2 flows.falls tt (all_back VisitKept (one ++ two) next kept.1)),
      )
  nodes_kept (LoopThen id body rest) edges new_edges back new_back apart h k kept =
      let flow : Flow = walk body edges in
      let inside : List Visit = visits body edges (backs flow) in
      let next : List Visit = visits rest (out_of_loop flow).falls [] in
      let new_body : Nodes = new_nodes numbers body in
      let new_flow : Flow = walk new_body new_edges in
      let new_inside : List Visit = visits new_body new_edges (backs new_flow) in
      let new_next : List Visit = visits (new_nodes numbers rest) (out_of_loop new_flow).falls [] in
      let flows : FlowRenamed numbers flow new_flow = walk-renamed numbers body edges new_edges apart.0 h in (
        record { left = ap not (is_empty-renamed numbers edges new_edges h) ∙ kept.0.left; sources = refl; uses = refl },
        all_append VisitKept new_inside new_next
            (nodes_kept body edges new_edges (backs flow) (backs new_flow) apart.0 h (backs-renamed numbers flow new_flow flows) (all_front VisitKept inside next kept.1))
            (nodes_kept rest (out_of_loop flow).falls (out_of_loop new_flow).falls [] [] apart.1 (out_of_loop-renamed numbers flow new_flow flows).falls tt (all_back VisitKept inside next kept.1)),
      )
