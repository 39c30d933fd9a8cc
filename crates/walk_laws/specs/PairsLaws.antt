-- Two lists, the second the first changed in place: their walks go by pairs of edges.
use Rattle.std.specs.Prelude.{◌≡◌, ◌⊎◌, refl, Bool, true, false, ◌&&◌, is_none, List, [], ◌∷◌, ◌++◌, Option, Some, None}
use Rattle.std.specs.List.{flat_map}
use Rattle.std.proofs.Common.{sym, ◌∙◌, ap, inl, inr}
use Rattle.std.proofs.lemmas.Bool.{and_from, and_parts, true≢false}
use Rattle.nir_ir.specs.declared.ids.IfId.{IfId}
use Rattle.nir_ir.specs.declared.ids.ValueId.{ValueId}
use Rattle.nir_ir.specs.declared.instr.Instr.{Instr}
use Rattle.nir_ir.specs.declared.node.Block.{Block}
use Rattle.nir_ir.specs.declared.node.Jump.{Jump}
use Rattle.nir_ir.specs.declared.node.Jump.TheVariants as jump
use Rattle.nir_ir.specs.declared.node.Phi.{Phi}
use Rattle.nir_ir.specs.Nodes.{Nodes, Nil, BlockThen, IfThen, LoopThen}
use Rattle.nir_validate.specs.Edges.{Edge, Flow, backs, behind, either, out_of_loop}
use Rattle.nir_validate.specs.Walk.{block_flow, by_jump, is_empty, is_idle, out_edges, walk}
use Rattle.nir_validate.specs.Each.{IsReached}
use Rattle.nir_validate.specs.Alternates.{JumpsIn, Turns}
use Rattle.nir_validate.specs.Each.{Each, Lives}
use Rattle.walk_laws.specs.VisitsLaws.{idle_parts}

pub record Change : Type 0 where
  pub phis : List Phi → List Phi
  pub instr : Instr → List Instr
  pub condition : IfId → ValueId → ValueId

abbrev pub changed_block : Change → Block → Block
changed_block c b = record { id = b.id; phis = c.phis b.phis; instrs = flat_map c.instr b.instrs; jump = b.jump }

abbrev pub changed : Change → Nodes → Nodes
changed c Nil = Nil
changed c (BlockThen b rest) = BlockThen (changed_block c b) (changed c rest)
changed c (IfThen id condition first second rest) = IfThen id (c.condition id condition) (changed c first) (changed c second) (changed c rest)
changed c (LoopThen id body rest) = LoopThen id (changed c body) (changed c rest)

abbrev pub AllPairs : (Edge → Edge → Type 0) → List Edge → List Edge → Type 0
AllPairs R [] [] = Unit {0}
AllPairs R [] (b ∷ q) = ⊥
AllPairs R (a ∷ p) [] = ⊥
AllPairs R (a ∷ p) (b ∷ q) = R a b × AllPairs R p q

pub record FlowPairs (R : Edge → Edge → Type 0) (f g : Flow) : Type 0 where
  pub falls : AllPairs R f.falls g.falls
  pub breaks : AllPairs R f.breaks g.breaks
  pub continues : AllPairs R f.continues g.continues

pub pairs_append : (R : Edge → Edge → Type 0) (a a' b b' : List Edge) → AllPairs R a a' → AllPairs R b b' → AllPairs R (a ++ b) (a' ++ b')
pairs_append R [] [] b b' one two = two
pairs_append R [] (y ∷ a') b b' one two = absurd one
pairs_append R (x ∷ a) [] b b' one two = absurd one
pairs_append R (x ∷ a) (y ∷ a') b b' one two = (one.0, pairs_append R a a' b b' one.1 two)

jump_pairs : (R : Edge → Edge → Type 0) (jump : Option Jump) (p q : List Edge) → AllPairs R p q → FlowPairs R (by_jump jump p) (by_jump jump q)
jump_pairs R None p q all = record { falls = all; breaks = tt; continues = tt }
jump_pairs R (Some jump.Break) p q all = record { falls = tt; breaks = all; continues = tt }
jump_pairs R (Some jump.Continue) p q all = record { falls = tt; breaks = tt; continues = all }

behind_pairs : (R : Edge → Edge → Type 0) (f g : Flow) (next after : List Edge → Flow) → FlowPairs R f g → FlowPairs R (next f.falls) (after g.falls) → FlowPairs R (behind f next) (behind g after)
behind_pairs R f g next after own end = record {
  falls = end.falls;
  breaks = pairs_append R f.breaks g.breaks (next f.falls).breaks (after g.falls).breaks own.breaks end.breaks;
  continues = pairs_append R f.continues g.continues (next f.falls).continues (after g.falls).continues own.continues end.continues;
}

either_pairs : (R : Edge → Edge → Type 0) (a b a' b' : Flow) → FlowPairs R a a' → FlowPairs R b b' → FlowPairs R (either a b) (either a' b')
either_pairs R a b a' b' one two = record {
  falls = pairs_append R a.falls a'.falls b.falls b'.falls one.falls two.falls;
  breaks = pairs_append R a.breaks a'.breaks b.breaks b'.breaks one.breaks two.breaks;
  continues = pairs_append R a.continues a'.continues b.continues b'.continues one.continues two.continues;
}

-- a block whose fact holds, and that block changed, go from pairs of edges to pairs of edges
abbrev pub BlocksPair : Change → (Edge → Edge → Type 0) → (Block → List Edge → List Edge → Type 0) → Type 0
BlocksPair c R G = (b : Block) (p q all : List Edge) → G b p all → AllPairs R p q → AllPairs R (out_edges b p) (out_edges (changed_block c b) q)

pub walk_pairs : (c : Change) (R : Edge → Edge → Type 0) (G : Block → List Edge → List Edge → Type 0) (H : ValueId → List Edge → Type 0) → BlocksPair c R G
    → (nodes : Nodes) (p q back : List Edge) → Each G H nodes p back → AllPairs R p q → FlowPairs R (walk nodes p) (walk (changed c nodes) q)
walk_pairs c R G H keep Nil p q back each all = record { falls = all; breaks = tt; continues = tt }
walk_pairs c R G H keep (BlockThen b rest) p q back each all =
    let own = jump_pairs R b.jump (out_edges b p) (out_edges (changed_block c b) q) (keep b p q (p ++ back) each.0 all) in
    behind_pairs R (block_flow b p) (block_flow (changed_block c b) q) (walk rest) (walk (changed c rest)) own
    (walk_pairs c R G H keep rest (block_flow b p).falls (block_flow (changed_block c b) q).falls [] each.1 own.falls)
walk_pairs c R G H keep (IfThen id condition first second rest) p q back each all =
    let f = either (walk first p) (walk second p) in
    let g = either (walk (changed c first) q) (walk (changed c second) q) in
    let own = either_pairs R (walk first p) (walk second p) (walk (changed c first) q) (walk (changed c second) q)
    (walk_pairs c R G H keep first p q [] each.2 all) (walk_pairs c R G H keep second p q [] each.3 all) in
    behind_pairs R f g (walk rest) (walk (changed c rest)) own (walk_pairs c R G H keep rest f.falls g.falls [] each.4 own.falls)
walk_pairs c R G H keep (LoopThen id body rest) p q back each all =
    let f = out_of_loop (walk body p) in
    let g = out_of_loop (walk (changed c body) q) in
    let inside = walk_pairs c R G H keep body p q (backs (walk body p)) each.1 all in
    let own : FlowPairs R f g = record { falls = inside.breaks; breaks = tt; continues = tt } in
    behind_pairs R f g (walk rest) (walk (changed c rest)) own (walk_pairs c R G H keep rest f.falls g.falls [] each.2 own.falls)

-- what holds of each block and condition goes over to those changed
abbrev pub BlocksGo : Change → (Edge → Edge → Type 0) → (G G' : Block → List Edge → List Edge → Type 0) → Type 0
BlocksGo c R G G' = (b : Block) (p q all all' : List Edge) → G b p all → AllPairs R p q → AllPairs R all all' → G' (changed_block c b) q all'

abbrev pub ConditionsGo : Change → (Edge → Edge → Type 0) → (H H' : ValueId → List Edge → Type 0) → Type 0
ConditionsGo c R H H' = (id : IfId) (condition : ValueId) (p q : List Edge) → H condition p → AllPairs R p q → H' (c.condition id condition) q

no_pairs : (R : Edge → Edge → Type 0) (back back' : List Edge) → back ≡ [] → AllPairs R back back' → back' ≡ []
no_pairs R [] [] none all = refl
no_pairs R [] (b ∷ back') none all = absurd all
no_pairs R (a ∷ back) back' none all = absurd (cc)

pub each_changed : (c : Change) (R : Edge → Edge → Type 0) (G G' : Block → List Edge → List Edge → Type 0) (H H' : ValueId → List Edge → Type 0)
    → BlocksPair c R G → BlocksGo c R G G' → ConditionsGo c R H H'
    → (nodes : Nodes) (p q back back' : List Edge) → Each G H nodes p back → AllPairs R p q → AllPairs R back back' → Each G' H' (changed c nodes) q back'
each_changed c R G G' H H' keep blocks conditions Nil p q back back' each all behind = no_pairs R back back' each behind
each_changed c R G G' H H' keep blocks conditions (BlockThen b rest) p q back back' each all behind =
    let own = jump_pairs R b.jump (out_edges b p) (out_edges (changed_block c b) q) (keep b p q (p ++ back) each.0 all) in (
      blocks b p q (p ++ back) (q ++ back') each.0 all (pairs_append R p q back back' all behind),
      each_changed c R G G' H H' keep blocks conditions rest (block_flow b p).falls (block_flow (changed_block c b) q).falls [] [] each.1 own.falls tt,
    )
each_changed c R G G' H H' keep blocks conditions (IfThen id condition first second rest) p q back back' each all behind =
    let own = either_pairs R (walk first p) (walk second p) (walk (changed c first) q) (walk (changed c second) q)
    (walk_pairs c R G H keep first p q [] each.2 all) (walk_pairs c R G H keep second p q [] each.3 all) in (
      no_pairs R back back' each.0 behind,
      conditions id condition p q each.1 all,
      each_changed c R G G' H H' keep blocks conditions first p q [] [] each.2 all tt,
      each_changed c R G G' H H' keep blocks conditions second p q [] [] each.3 all tt,
      each_changed c R G G' H H' keep blocks conditions rest (either (walk first p) (walk second p)).falls (either (walk (changed c first) q) (walk (changed c second) q)).falls [] [] each.4 own.falls tt,
    )
each_changed c R G G' H H' keep blocks conditions (LoopThen id body rest) p q back back' each all behind =
    let inside = walk_pairs c R G H keep body p q (backs (walk body p)) each.1 all in
    let again = pairs_append R (walk body p).falls (walk (changed c body) q).falls (walk body p).continues (walk (changed c body) q).continues inside.falls inside.continues in (
      no_pairs R back back' each.0 behind,
      each_changed c R G G' H H' keep blocks conditions body p q (backs (walk body p)) (backs (walk (changed c body) q)) each.1 all again,
      each_changed c R G G' H H' keep blocks conditions rest (out_of_loop (walk body p)).falls (out_of_loop (walk (changed c body) q)).falls [] [] each.2 inside.breaks tt,
    )

-- V3, V4 and V5 of a changed list
pub turns_changed : (c : Change) (block : Bool) (nodes : Nodes) → Turns block nodes → Turns block (changed c nodes)
turns_changed c true Nil turns = turns
turns_changed c false Nil turns = tt
turns_changed c true (BlockThen b rest) turns = turns_changed c false rest turns
turns_changed c false (BlockThen b rest) turns = turns
turns_changed c true (IfThen id condition first second rest) turns = turns
turns_changed c false (IfThen id condition first second rest) turns = (turns_changed c true first turns.0, turns_changed c true second turns.1, turns_changed c true rest turns.2)
turns_changed c true (LoopThen id body rest) turns = turns
turns_changed c false (LoopThen id body rest) turns = (turns_changed c true body turns.0, turns_changed c true rest turns.1)

pub jumps_changed : (c : Change) (in_loop : Bool) (nodes : Nodes) → JumpsIn in_loop nodes → JumpsIn in_loop (changed c nodes)
jumps_changed c in_loop Nil jumps = tt
jumps_changed c in_loop (BlockThen b rest) jumps = (jumps.0, jumps_changed c in_loop rest jumps.1)
jumps_changed c in_loop (IfThen id condition first second rest) jumps = (jumps_changed c in_loop first jumps.0, jumps_changed c in_loop second jumps.1, jumps_changed c in_loop rest jumps.2)
jumps_changed c in_loop (LoopThen id body rest) jumps = (jumps_changed c true body jumps.0, jumps_changed c in_loop rest jumps.1)

pub reached_pairs : (R : Edge → Edge → Type 0) (p q : List Edge) → AllPairs R p q → IsReached p → IsReached q
reached_pairs R [] q all reached = absurd (true≢false reached)
reached_pairs R (a ∷ p) [] all reached = absurd all
reached_pairs R (a ∷ p) (b ∷ q) all reached = refl

idle_changed : (c : Change) → c.phis [] ≡ [] → (b : Block) (rest : Nodes) → is_idle b rest ≡ true → is_idle (changed_block c b) (changed c rest) ≡ true
idle_changed c empty b Nil idle =
    let none = idle_parts b Nil idle in
    and_from (is_empty (c.phis b.phis) && is_empty (flat_map c.instr b.instrs)) (is_none b.jump)
    (and_from (is_empty (c.phis b.phis)) (is_empty (flat_map c.instr b.instrs)) (ap (λ list. is_empty (c.phis list)) none.0 ∙ ap is_empty empty) (ap (λ list. is_empty (flat_map c.instr list)) none.1))
    (and_parts (is_empty b.phis && is_empty b.instrs) (is_none b.jump) idle).1
idle_changed c empty b (BlockThen other rest) idle = absurd (true≢false (sym idle))
idle_changed c empty b (IfThen id condition first second rest) idle = absurd (true≢false (sym idle))
idle_changed c empty b (LoopThen id body rest) idle = absurd (true≢false (sym idle))

block_still : (c : Change) (R : Edge → Edge → Type 0) → c.phis [] ≡ [] → (b : Block) (rest : Nodes) (p q : List Edge) → AllPairs R p q → IsReached p ⊎ (is_idle b rest ≡ true)
    → IsReached q ⊎ (is_idle (changed_block c b) (changed c rest) ≡ true)
block_still c R empty b rest p q all (inl reached) = inl (reached_pairs R p q all reached)
block_still c R empty b rest p q all (inr idle) = inr (idle_changed c empty b rest idle)

pub lives_changed : (c : Change) (R : Edge → Edge → Type 0) (G : Block → List Edge → List Edge → Type 0) (H : ValueId → List Edge → Type 0) → BlocksPair c R G → c.phis [] ≡ []
    → (nodes : Nodes) (p q back : List Edge) → Each G H nodes p back → AllPairs R p q → Lives nodes p → Lives (changed c nodes) q
lives_changed c R G H keep empty Nil p q back each all lives = tt
lives_changed c R G H keep empty (BlockThen b rest) p q back each all lives =
    let own = jump_pairs R b.jump (out_edges b p) (out_edges (changed_block c b) q) (keep b p q (p ++ back) each.0 all) in
    (block_still c R empty b rest p q all lives.0, lives_changed c R G H keep empty rest (block_flow b p).falls (block_flow (changed_block c b) q).falls [] each.1 own.falls lives.1)
lives_changed c R G H keep empty (IfThen id condition first second rest) p q back each all lives =
    let own = either_pairs R (walk first p) (walk second p) (walk (changed c first) q) (walk (changed c second) q)
    (walk_pairs c R G H keep first p q [] each.2 all) (walk_pairs c R G H keep second p q [] each.3 all) in (
      reached_pairs R p q all lives.0,
      lives_changed c R G H keep empty first p q [] each.2 all lives.1,
      lives_changed c R G H keep empty second p q [] each.3 all lives.2,
      lives_changed c R G H keep empty rest (either (walk first p) (walk second p)).falls (either (walk (changed c first) q) (walk (changed c second) q)).falls [] each.4 own.falls lives.3,
    )
lives_changed c R G H keep empty (LoopThen id body rest) p q back each all lives =
    let inside = walk_pairs c R G H keep body p q (backs (walk body p)) each.1 all in (
      reached_pairs R p q all lives.0,
      lives_changed c R G H keep empty body p q (backs (walk body p)) each.1 all lives.1,
      lives_changed c R G H keep empty rest (out_of_loop (walk body p)).falls (out_of_loop (walk (changed c body) q)).falls [] each.2 inside.breaks lives.2,
    )
