-- A run of a valid shader ends at its end, or is cut: no jump leaves it.
use Rattle.std.specs.Prelude.{◌≡◌, ℕ, zero, suc, Bool, true, false, nat_eq, Option, None}
use Rattle.std.proofs.Common.{sym, subst}
use Rattle.nir_ir.specs.declared.ids.BlockId.{BlockId}
use Rattle.nir_ir.specs.declared.node.Block.{Block}
use Rattle.nir_ir.specs.Nodes.{Nodes, Nil, BlockThen, IfThen, LoopThen}
use Rattle.nir_ir.specs.Shader.{Shader}
use Rattle.nir_validate.specs.Valid.{Valid}
use Rattle.nir_mean.specs.Run.{Exit, Fall, Break, Continue, Cut, Part, Setting, after_fall, after_turn, run_block, run_choice, run_list, scalar, turns}
use Rattle.nir_mean.specs.State.{State}
use Rattle.nir_validate.specs.Alternates.{JumpsIn}
use Rattle.walk_laws.specs.PartsLaws.{parts-from_valid}
use Rattle.walk_laws.specs.LeavesLaws.{no_jump}

-- control falls off the end, or the run is cut
abbrev pub Ends : Exit → Type 0
Ends (Fall from state) = Unit {0}
Ends (Break from state) = ⊥
Ends (Continue from state) = ⊥
Ends (Cut state) = Unit {0}

abbrev pub PartEnds : Part → Type 0
PartEnds part = (from : Option BlockId) (state : State) → Ends (part from state)

fall_ends : (exit : Exit) (behind : Part) → Ends exit → PartEnds behind → Ends (after_fall exit behind)
fall_ends (Fall from state) behind own next = next from state
fall_ends (Break from state) behind own next = own
fall_ends (Continue from state) behind own next = own
fall_ends (Cut state) behind own next = tt

-- a loop ends, whatever its body does
turn_ends : (exit : Exit) (again : Part) → PartEnds again → Ends (after_turn exit again)
turn_ends (Fall from state) again next = next from state
turn_ends (Break from state) again next = tt
turn_ends (Continue from state) again next = next from state
turn_ends (Cut state) again next = tt

turns_end : (n : ℕ) (body : Part) → PartEnds (turns n body)
turns_end zero body from state = turn_ends (body from state) (λ _ last. Cut last) (λ _ last. tt)
turns_end (suc n) body from state = turn_ends (body from state) (turns n body) (turns_end n body)

choice_ends : (test : Bool) (first second : Part) → PartEnds first → PartEnds second → PartEnds (run_choice test first second)
choice_ends true first second one two from state = one from state
choice_ends false first second one two from state = two from state

block_ends : (m : Setting) (b : Block) → b.jump ≡ None → PartEnds (run_block m b)
block_ends m b none from state =
    let plain : Block = record { id = b.id; phis = b.phis; instrs = b.instrs; jump = None } in
    let same : b ≡ plain = λ i. record { id = b.id; phis = b.phis; instrs = b.instrs; jump = none i } in
    subst (λ (x : Block). Ends (run_block m x from state)) (sym same) tt

pub list_ends : (m : Setting) (nodes : Nodes) → JumpsIn false nodes → PartEnds (run_list m nodes)
list_ends m Nil jumps from state = tt
list_ends m (BlockThen b rest) jumps from state = fall_ends (run_block m b from state) (run_list m rest) (block_ends m b (no_jump b jumps.0) from state) (list_ends m rest jumps.1)
list_ends m (IfThen id condition first second rest) jumps from state =
    let test = nat_eq (scalar state.values condition) 1 in
    fall_ends (run_choice test (run_list m first) (run_list m second) from state) (run_list m rest)
    (choice_ends test (run_list m first) (run_list m second) (list_ends m first jumps.0) (list_ends m second jumps.1) from state)
    (list_ends m rest jumps.2)
list_ends m (LoopThen id body rest) jumps from state =
    fall_ends (turns m.repeats (run_list m body) from state) (run_list m rest) (turns_end m.repeats (run_list m body) from state) (list_ends m rest jumps.1)

abbrev pub ValidEnds : Type 0
ValidEnds = (s : Shader) (m : Setting) → Valid s → PartEnds (run_list m s.body)

pub valid_ends : ValidEnds
valid_ends s m valid = list_ends m s.body (parts-from_valid s valid).whole.jumps
