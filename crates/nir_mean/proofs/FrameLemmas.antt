-- The stack of lists: what a frame put on it or taken from it changes.
use Rattle.std.proofs.Common.{◌≡◌, ◌<◌, ◌≤◌, ℕ, ◌+◌, ◌-◌, ◌*◌, zero, suc, List, [], ◌∷◌, ◌++◌, Option, Some, None, IfNone, refl, sym, ◌∙◌, ap, subst, arith}
use Rattle.std.specs.Borrow.{Bor}
use Rattle.nir_ir.specs.declared.ids.BlockId.{BlockId}
use Rattle.nir_ir.specs.declared.node.Node.{Node}
use Rattle.nir_ir.specs.Nodes.{Nodes, Nil, BlockThen, IfThen, LoopThen, nodes_of}
use Rattle.nir_ir.specs.Shader.{Shader}
use Rattle.nir_mean.specs.declared.frames.Frame.{Frame}
use Rattle.nir_mean.specs.declared.frames.Frame.TheVariants.{Rest, Again}
use Rattle.nir_mean.specs.declared.frames.Step.{Step}
use Rattle.nir_mean.specs.declared.frames.Step.TheVariants.{Run, End}
use Rattle.nir_mean.specs.declared.frames.Turn.{Turn}
use Rattle.nir_mean.specs.declared.outcome.Outcome.{Outcome}
use Rattle.nir_mean.specs.Frames.{FrameSound, FramesSound, Goes, Stepped, cost, frame_cost, frames_cost, left_by, outcome_after, resumed, turn_cost, turned, under}
use Rattle.nir_mean.specs.Outcome.{outcome_of}
use Rattle.nir_mean.specs.Sound.{NodesSound}
use Rattle.nir_mean.specs.Run.{Break, Continue, Cut, Exit, Fall, Setting, run_list, turns}
use Rattle.nir_mean.specs.State.{State}

pub resumed-snoc : (s : Setting) (frames : List Frame) (frame : Frame) (exit : Exit) → resumed s (frames ++ frame ∷ []) exit ≡ resumed s frames (under s frame exit)
resumed-snoc s [] frame exit = refl
resumed-snoc s (f ∷ frames) frame exit = ap (under s f) (resumed-snoc s frames frame exit)

pub cost-snoc : (n : ℕ) (frames : List Frame) (frame : Frame) → frames_cost n (frames ++ frame ∷ []) ≡ frames_cost n frames + frame_cost n frame
cost-snoc n [] frame = omega arith
cost-snoc n (f ∷ frames) frame = let rest = cost-snoc n frames frame in omega arith

pub sound-snoc : (s : Shader) (frames : List Frame) (frame : Frame) → FramesSound s frames → FrameSound s frame → FramesSound s (frames ++ frame ∷ [])
sound-snoc s [] frame all here = (here, tt)
sound-snoc s (f ∷ frames) frame all here = (all.0, sound-snoc s frames frame all.1 here)

pub sound-front : (s : Shader) (frames : List Frame) (frame : Frame) → FramesSound s (frames ++ frame ∷ []) → FramesSound s frames
sound-front s [] frame all = tt
sound-front s (f ∷ frames) frame all = (all.0, sound-front s frames frame all.1)

pub sound-last : (s : Shader) (frames : List Frame) (frame : Frame) → FramesSound s (frames ++ frame ∷ []) → FrameSound s frame
sound-last s [] frame all = all.0
sound-last s (f ∷ frames) frame all = sound-last s frames frame all.1

-- a run that is cut stays so
turned-cut : (s : Setting) (left : ℕ) (body : Nodes) (state : State) → turned s left body (Cut state) ≡ Cut state
turned-cut s zero body state = refl
turned-cut s (suc left) body state = refl

under-cut : (s : Setting) (frame : Frame) (state : State) → under s frame (Cut state) ≡ Cut state
under-cut s (Rest rest) state = refl
under-cut s (Again turn) state = turned-cut s turn.left (nodes_of turn.body.now) state

pub resumed-cut : (s : Setting) (frames : List Frame) (state : State) → resumed s frames (Cut state) ≡ Cut state
resumed-cut s [] state = refl
resumed-cut s (frame ∷ frames) state = ap (under s frame) (resumed-cut s frames state) ∙ under-cut s frame state

-- the end of a turn
pub turned-none : (s : Setting) (left : ℕ) (body : Nodes) (from : Option BlockId) (state : State) → left ≡ 0 → turned s left body (Fall from state) ≡ Cut state
turned-none s zero body from state is = refl
turned-none s (suc left) body from state is = absurd (omega arith)

pub turns-turned : (s : Setting) (left : ℕ) (body : Nodes) (from : Option BlockId) (state : State) → turns left (run_list s body) from state ≡ turned s left body (run_list s body from state)
turns-turned s zero body from state = refl
turns-turned s (suc left) body from state = refl

pub turned-some : (s : Setting) (left : ℕ) (body : Nodes) (from : Option BlockId) (state : State) → 0 < left → turned s left body (Fall from state) ≡ turned s (left - 1) body (run_list s body from state)
turned-some s zero body from state some = absurd (omega arith)
turned-some s (suc left) body from state some =
    let one : left ≡ suc left - 1 = omega arith in
    turns-turned s left body from state ∙ ap (λ n. turned s n body (run_list s body from state)) one

pub turned-break : (s : Setting) (left : ℕ) (body : Nodes) (from : Option BlockId) (state : State) → turned s left body (Break from state) ≡ Fall from state
turned-break s zero body from state = refl
turned-break s (suc left) body from state = refl

pub turned-continue : (s : Setting) (left : ℕ) (body : Nodes) (from : Option BlockId) (state : State) → turned s left body (Continue from state) ≡ turned s left body (Fall from state)
turned-continue s zero body from state = refl
turned-continue s (suc left) body from state = refl

-- a turn fewer costs less
pub turn_less : (left each : ℕ) → 0 < left → (left - 1) * each + each ≡ left * each
turn_less zero each some = absurd (omega arith)
turn_less (suc left) each some =
    let one : suc left - 1 ≡ left = omega arith in
    ap (λ n. n * each + each) one ∙ omega arith

-- a step of a run is one of a run with the same outcome and more room
pub stepped_more : (s : Shader) (given : Setting) (whole other : Outcome) (limit room : ℕ) (frames : List Frame) (state : State) (step : Step) → whole ≡ other → limit ≤ room
    → Stepped s given whole limit frames state step → Stepped s given other room frames state step
stepped_more s given whole other limit room frames state (Run nodes from) same more goes = record {
  same = goes.same ∙ same;
  less = omega (arith, goes.less, more);
  sound = goes.sound;
  sound_under = goes.sound_under;
}
stepped_more s given whole other limit room frames state (End ending) same more told = told ∙ same

pub goes_back : (s : Shader) (given : Setting) (frames more : List Frame) (turn : Turn) (next : Turn) (from : Option BlockId) (state : State) → 0 < turn.left
    → FramesSound s frames → NodesSound s (nodes_of turn.body.now) → next.body.now ≡ turn.body.now → next.left ≡ turn.left - 1 → more ≡ frames ++ Again next ∷ []
    → Goes s given (outcome_after given frames (turned given turn.left (nodes_of turn.body.now) (Fall from state))) (turn_cost given.repeats turn + frames_cost given.repeats frames) more (nodes_of turn.body.now) from state
goes_back s given frames more turn next from state some sound body same_body fewer is = record {
  same =
      ap (λ list. outcome_after given list (run_list given nodes from state)) is
      ∙ ap outcome_of (resumed-snoc given frames (Again next) (run_list given nodes from state))
      ∙ ap (λ list. outcome_after given frames (turned given next.left (nodes_of list) (run_list given nodes from state))) same_body
      ∙ ap (λ left. outcome_after given frames (turned given left nodes (run_list given nodes from state))) fewer
      ∙ ap (outcome_after given frames) (sym (turned-some given turn.left nodes from state some));
  less =
      let least : turn_cost given.repeats next ≡ 1 + (turn.left - 1) * (1 + cost given.repeats nodes) =
      ap (λ list. 1 + next.left * (1 + cost given.repeats (nodes_of list))) same_body ∙ ap (λ left. 1 + left * (1 + cost given.repeats nodes)) fewer in
      let all : frames_cost given.repeats more ≡ frames_cost given.repeats frames + turn_cost given.repeats next =
      ap (frames_cost given.repeats) is ∙ cost-snoc given.repeats frames (Again next) in
      let each : (turn.left - 1) * (1 + cost given.repeats nodes) + (1 + cost given.repeats nodes) ≡ turn.left * (1 + cost given.repeats nodes) = turn_less turn.left (1 + cost given.repeats nodes) some in
      omega (arith, least, all, each);
  sound = body;
  sound_under = subst (λ (list : List Frame). FramesSound s list) (sym is) (sound-snoc s frames (Again next) sound (subst (λ (list : List Node). NodesSound s (nodes_of list)) (sym same_body) body));
} where
  nodes : Nodes
  nodes = nodes_of turn.body.now

pub goes_rest : (s : Shader) (given : Setting) (frames left : List Frame) (rest : Bor (List Node)) (from : Option BlockId) (state : State) → FramesSound s frames → frames ≡ left ++ Rest rest ∷ []
    → Goes s given (outcome_after given frames (Fall from state)) (1 + frames_cost given.repeats frames) left (nodes_of rest.now) from state
goes_rest s given frames left rest from state sound is =
    let whole : FramesSound s (left ++ Rest rest ∷ []) = subst (λ (list : List Frame). FramesSound s list) is sound in
    record {
      same = sym (ap (λ list. outcome_after given list (Fall from state)) is ∙ ap outcome_of (resumed-snoc given left (Rest rest) (Fall from state)));
      less = let all : frames_cost given.repeats frames ≡ frames_cost given.repeats left + cost given.repeats (nodes_of rest.now) = ap (frames_cost given.repeats) is ∙ cost-snoc given.repeats left (Rest rest) in omega (arith, all);
      sound = sound-last s left (Rest rest) whole;
      sound_under = sound-front s left (Rest rest) whole;
    }

pub falls_again : (s : Shader) (given : Setting) (frames left after : List Frame) (turn : Turn) (from : Option BlockId) (state : State) (step : Step) → frames ≡ left ++ Again turn ∷ []
    → Stepped s given (outcome_after given left (turned given turn.left (nodes_of turn.body.now) (Fall from state))) (turn_cost given.repeats turn + frames_cost given.repeats left) after state step
    → Stepped s given (outcome_after given frames (Fall from state)) (1 + frames_cost given.repeats frames) after state step
falls_again s given frames left after turn from state step is =
    let all : frames_cost given.repeats frames ≡ frames_cost given.repeats left + turn_cost given.repeats turn = ap (frames_cost given.repeats) is ∙ cost-snoc given.repeats left (Again turn) in
    stepped_more s given _ _ _ _ after state step
    (sym (ap (λ list. outcome_after given list (Fall from state)) is ∙ ap outcome_of (resumed-snoc given left (Again turn) (Fall from state))))
    (omega (arith, all))

-- the last frame is taken
pub pop_exit : (s : Setting) (frames left : List Frame) (frame : Frame) (exit : Exit) → frames ≡ left ++ frame ∷ [] → resumed s frames exit ≡ resumed s left (under s frame exit)
pop_exit s frames left frame exit is = ap (λ list. resumed s list exit) is ∙ resumed-snoc s left frame exit

pub pop_cost : (n : ℕ) (frames left : List Frame) (frame : Frame) → frames ≡ left ++ frame ∷ [] → frames_cost n frames ≡ frames_cost n left + frame_cost n frame
pop_cost n frames left frame is = ap (frames_cost n) is ∙ cost-snoc n left frame

pub pop_sound : (s : Shader) (frames left : List Frame) (frame : Frame) → frames ≡ left ++ frame ∷ [] → FramesSound s frames → FramesSound s left
pop_sound s frames left frame is sound = sound-front s left frame (subst (λ (list : List Frame). FramesSound s list) is sound)

pub pop_frame : (s : Shader) (frames left : List Frame) (frame : Frame) → frames ≡ left ++ frame ∷ [] → FramesSound s frames → FrameSound s frame
pop_frame s frames left frame is sound = sound-last s left frame (subst (λ (list : List Frame). FramesSound s list) is sound)

-- where a continue goes
pub continues_some : (s : Setting) (frames left : List Frame) (turn : Turn) (from : Option BlockId) (state : State)
    → resumed s frames (Continue from state) ≡ resumed s left (turned s turn.left (nodes_of turn.body.now) (Continue from state))
    → outcome_after s left (turned s turn.left (nodes_of turn.body.now) (Fall from state)) ≡ outcome_after s frames (Continue from state)
continues_some s frames left turn from state is =
    sym (ap outcome_of is ∙ ap (outcome_after s left) (turned-continue s turn.left (nodes_of turn.body.now) from state))

-- every list takes a step
pub cost_some : (n : ℕ) (nodes : Nodes) → 1 ≤ cost n nodes
cost_some n Nil = omega arith
cost_some n (BlockThen b rest) = omega arith
cost_some n (IfThen id condition first second rest) = omega arith
cost_some n (LoopThen id body rest) = omega arith
