-- A list after another: its run is the run of the first, and then of the second where the first falls.
use Rattle.std.specs.Prelude.{◌≡◌, refl, nat_eq, Option}
use Rattle.std.proofs.Common.{sym, ◌∙◌}
use Rattle.nir_ir.specs.declared.ids.BlockId.{BlockId}
use Rattle.nir_ir.specs.Nodes.{Nodes, Nil, BlockThen, IfThen, LoopThen, then}
use Rattle.nir_mean.specs.Run.{Break, Continue, Cut, Exit, Fall, Part, Setting, after_fall, run_block, run_choice, run_list, scalar, turns}
use Rattle.nir_mean.specs.State.{State}

pub after_fall-assoc : (exit : Exit) (middle last : Part) → after_fall (after_fall exit middle) last ≡ after_fall exit (λ from state. after_fall (middle from state) last)
after_fall-assoc (Fall from state) middle last = refl
after_fall-assoc (Break from state) middle last = refl
after_fall-assoc (Continue from state) middle last = refl
after_fall-assoc (Cut state) middle last = refl

behind_same : (exit : Exit) (one other : Part) → ((from : Option BlockId) (state : State) → one from state ≡ other from state) → after_fall exit one ≡ after_fall exit other
behind_same (Fall from state) one other same = same from state
behind_same (Break from state) one other same = refl
behind_same (Continue from state) one other same = refl
behind_same (Cut state) one other same = refl

pub run_list-then : (m : Setting) (first second : Nodes) (from : Option BlockId) (state : State) → run_list m (then first second) from state ≡ after_fall (run_list m first from state) (run_list m second)
run_list-then m Nil second from state = refl
run_list-then m (BlockThen b rest) second from state =
    let exit = run_block m b from state in
    behind_same exit (run_list m (then rest second)) (λ last end. after_fall (run_list m rest last end) (run_list m second)) (run_list-then m rest second)
    ∙ sym (after_fall-assoc exit (run_list m rest) (run_list m second))
run_list-then m (IfThen id condition first other rest) second from state =
    let exit = run_choice (nat_eq (scalar state.values condition) 1) (run_list m first) (run_list m other) from state in
    behind_same exit (run_list m (then rest second)) (λ last end. after_fall (run_list m rest last end) (run_list m second)) (run_list-then m rest second)
    ∙ sym (after_fall-assoc exit (run_list m rest) (run_list m second))
run_list-then m (LoopThen id body rest) second from state =
    let exit = turns m.repeats (run_list m body) from state in
    behind_same exit (run_list m (then rest second)) (λ last end. after_fall (run_list m rest last end) (run_list m second)) (run_list-then m rest second)
    ∙ sym (after_fall-assoc exit (run_list m rest) (run_list m second))
