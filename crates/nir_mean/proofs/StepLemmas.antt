-- One step of a run: what the first node of a list is, and what is run next.
use Rattle.std.proofs.Common.{◌≡◌, ◌≤◌, ℕ, ◌+◌, ◌*◌, Bool, true, false, cond, List, [], ◌∷◌, ◌++◌, Option, nat_eq, length, refl, sym, ◌∙◌, ap, subst, arith}
use Rattle.std.specs.Borrow.{Bor}
use Rattle.nir_ir.specs.declared.ids.BlockId.{BlockId}
use Rattle.nir_ir.specs.declared.ids.IfId.{IfId}
use Rattle.nir_ir.specs.declared.ids.LoopId.{LoopId}
use Rattle.nir_ir.specs.declared.ids.ValueId.{ValueId}
use Rattle.nir_ir.specs.declared.node.Block as block
use Rattle.nir_ir.specs.declared.node.Node.{Node}
use Rattle.nir_ir.specs.declared.node.Node.TheVariants as node
use Rattle.nir_ir.specs.Nodes.{Nodes, Nil, BlockThen, IfThen, LoopThen, nodes_of, before-block, before-if, before-loop}
use Rattle.nir_ir.specs.Shader.{Shader}
use Rattle.nir_mean.specs.declared.frames.Frame.{Frame}
use Rattle.nir_mean.specs.declared.frames.Frame.TheVariants.{Rest, Again}
use Rattle.nir_mean.specs.declared.frames.Turn.{Turn}
use Rattle.nir_mean.specs.Frames.{FramesSound, Goes, cost, frames_cost, outcome_after, turn_cost, turned}
use Rattle.nir_mean.specs.Outcome.{outcome_of}
use Rattle.nir_mean.specs.Run.{Setting, after_fall, run_choice, run_list, scalar}
use Rattle.nir_mean.specs.Sound.{NodesSound}
use Rattle.nir_mean.specs.State.{State}
use Rattle.nir_mean.proofs.FrameLemmas.{cost-snoc, resumed-snoc, sound-snoc, turns-turned}

-- the chain of a list that begins with this node
pub first_block : (nodes rest : List Node) (n : Node) (b : block.Block) → nodes ≡ n ∷ rest → n ≡ node.Block b → nodes_of nodes ≡ BlockThen b (nodes_of rest)
first_block nodes rest n b is here = ap nodes_of is ∙ ap (λ (m : Node). nodes_of (m ∷ rest)) here ∙ before-block b (nodes_of rest)

pub first_if : (nodes rest : List Node) (n : Node) (id : IfId) (condition : ValueId) (first second : List Node) → nodes ≡ n ∷ rest → n ≡ node.If id condition first second
    → nodes_of nodes ≡ IfThen id condition (nodes_of first) (nodes_of second) (nodes_of rest)
first_if nodes rest n id condition first second is here = ap nodes_of is ∙ ap (λ (m : Node). nodes_of (m ∷ rest)) here ∙ before-if id condition first second (nodes_of rest)

pub first_loop : (nodes rest : List Node) (n : Node) (id : LoopId) (body : List Node) → nodes ≡ n ∷ rest → n ≡ node.Loop id body → nodes_of nodes ≡ LoopThen id (nodes_of body) (nodes_of rest)
first_loop nodes rest n id body is here = ap nodes_of is ∙ ap (λ (m : Node). nodes_of (m ∷ rest)) here ∙ before-loop id body (nodes_of rest)

-- the list of an if that is run
chosen_run : (s : Setting) (test : Bool) (first second : List Node) (from : Option BlockId) (state : State)
    → run_list s (nodes_of (cond test first second)) from state ≡ run_choice test (run_list s (nodes_of first)) (run_list s (nodes_of second)) from state
chosen_run s true first second from state = refl
chosen_run s false first second from state = refl

chosen_sound : (s : Shader) (test : Bool) (first second : List Node) → NodesSound s (nodes_of first) → NodesSound s (nodes_of second) → NodesSound s (nodes_of (cond test first second))
chosen_sound s true first second a b = a
chosen_sound s false first second a b = b

chosen_cost : (n : ℕ) (test : Bool) (first second : List Node) → cost n (nodes_of (cond test first second)) ≤ cost n (nodes_of first) + cost n (nodes_of second)
chosen_cost n true first second = omega arith
chosen_cost n false first second = omega arith

pub goes_if : (s : Shader) (given : Setting) (frames more : List Frame) (nodes : Nodes) (id : IfId) (condition : ValueId) (first second list : List Node) (rest : Bor (List Node)) (from : Option BlockId) (state : State)
    → nodes ≡ IfThen id condition (nodes_of first) (nodes_of second) (nodes_of rest.now) → list ≡ cond (nat_eq (scalar state.values condition) 1) first second → more ≡ frames ++ Rest rest ∷ []
    → NodesSound s nodes → FramesSound s frames
    → Goes s given (outcome_after given frames (run_list given nodes from state)) (cost given.repeats nodes + frames_cost given.repeats frames) more (nodes_of list) from state
goes_if s given frames more nodes id condition first second list rest from state here chosen is sound under =
    let test = nat_eq (scalar state.values condition) 1 in
    let parts : NodesSound s (IfThen id condition (nodes_of first) (nodes_of second) (nodes_of rest.now)) = subst (λ (n : Nodes). NodesSound s n) here sound in
    record {
      same =
          ap (λ stack. outcome_after given stack (run_list given (nodes_of list) from state)) is
          ∙ ap outcome_of (resumed-snoc given frames (Rest rest) (run_list given (nodes_of list) from state))
          ∙ ap (λ l. outcome_after given frames (after_fall (run_list given (nodes_of l) from state) (run_list given (nodes_of rest.now)))) chosen
          ∙ ap (λ exit. outcome_after given frames (after_fall exit (run_list given (nodes_of rest.now)))) (chosen_run given test first second from state)
          ∙ sym (ap (λ n. outcome_after given frames (run_list given n from state)) here);
      less =
          let whole : cost given.repeats nodes ≡ 1 + cost given.repeats (nodes_of first) + cost given.repeats (nodes_of second) + cost given.repeats (nodes_of rest.now) = ap (cost given.repeats) here in
          let all : frames_cost given.repeats more ≡ frames_cost given.repeats frames + cost given.repeats (nodes_of rest.now) = ap (frames_cost given.repeats) is ∙ cost-snoc given.repeats frames (Rest rest) in
          let part : cost given.repeats (nodes_of list) ≡ cost given.repeats (nodes_of (cond test first second)) = ap (λ l. cost given.repeats (nodes_of l)) chosen in
          let few = chosen_cost given.repeats test first second in
          omega (arith, whole, all, part, few);
      sound = subst (λ (l : List Node). NodesSound s (nodes_of l)) (sym chosen) (chosen_sound s test first second parts.0 parts.1);
      sound_under = subst (λ (stack : List Frame). FramesSound s stack) (sym is) (sound-snoc s frames (Rest rest) under parts.2);
    }

pub goes_loop : (s : Shader) (given : Setting) (frames middle more : List Frame) (nodes : Nodes) (id : LoopId) (body : List Node) (turn : Turn) (rest : Bor (List Node)) (from : Option BlockId) (state : State)
    → nodes ≡ LoopThen id (nodes_of body) (nodes_of rest.now) → turn.body.now ≡ body → turn.left ≡ given.repeats → middle ≡ frames ++ Rest rest ∷ [] → more ≡ middle ++ Again turn ∷ []
    → NodesSound s nodes → FramesSound s frames
    → Goes s given (outcome_after given frames (run_list given nodes from state)) (cost given.repeats nodes + frames_cost given.repeats frames) more (nodes_of turn.body.now) from state
goes_loop s given frames middle more nodes id body turn rest from state here same_body left mid is sound under =
    let whole_here : nodes ≡ LoopThen id (nodes_of turn.body.now) (nodes_of rest.now) = here ∙ ap (λ (l : List Node). LoopThen id (nodes_of l) (nodes_of rest.now)) (sym same_body) in
    let parts : NodesSound s (LoopThen id (nodes_of turn.body.now) (nodes_of rest.now)) = subst (λ (n : Nodes). NodesSound s n) whole_here sound in
    let inner = run_list given (nodes_of turn.body.now) from state in
    record {
      same =
          ap (λ stack. outcome_after given stack inner) is
          ∙ ap outcome_of (resumed-snoc given middle (Again turn) inner)
          ∙ ap (λ stack. outcome_after given stack (turned given turn.left (nodes_of turn.body.now) inner)) mid
          ∙ ap outcome_of (resumed-snoc given frames (Rest rest) (turned given turn.left (nodes_of turn.body.now) inner))
          ∙ ap (λ n. outcome_after given frames (after_fall (turned given n (nodes_of turn.body.now) inner) (run_list given (nodes_of rest.now)))) left
          ∙ sym (ap (λ exit. outcome_after given frames (after_fall exit (run_list given (nodes_of rest.now)))) (turns-turned given given.repeats (nodes_of turn.body.now) from state))
          ∙ sym (ap (λ n. outcome_after given frames (run_list given n from state)) whole_here);
      less =
          let whole : cost given.repeats nodes ≡ 1 + (given.repeats + 1) * (1 + cost given.repeats (nodes_of turn.body.now)) + cost given.repeats (nodes_of rest.now) = ap (cost given.repeats) whole_here in
          let inside : turn_cost given.repeats turn ≡ 1 + given.repeats * (1 + cost given.repeats (nodes_of turn.body.now)) = ap (λ n. 1 + n * (1 + cost given.repeats (nodes_of turn.body.now))) left in
          let first : frames_cost given.repeats middle ≡ frames_cost given.repeats frames + cost given.repeats (nodes_of rest.now) = ap (frames_cost given.repeats) mid ∙ cost-snoc given.repeats frames (Rest rest) in
          let all : frames_cost given.repeats more ≡ frames_cost given.repeats middle + turn_cost given.repeats turn = ap (frames_cost given.repeats) is ∙ cost-snoc given.repeats middle (Again turn) in
          omega (arith, whole, inside, first, all);
      sound = parts.0;
      sound_under = subst (λ (stack : List Frame). FramesSound s stack) (sym is) (sound-snoc s middle (Again turn) (subst (λ (stack : List Frame). FramesSound s stack) (sym mid) (sound-snoc s frames (Rest rest) under parts.1)) parts.0);
    }

pub empty_list : (list : List Node) → length list ≡ 0 → nodes_of list ≡ Nil
empty_list [] none = refl
empty_list (n ∷ list) none = absurd (omega arith)
