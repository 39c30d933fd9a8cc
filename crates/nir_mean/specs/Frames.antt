-- What is still to be run when a list ends, and how much that is at the most: a run by a stack of lists.
use Rattle.std.specs.Prelude.{◌≡◌, ◌<◌, ℕ, ◌+◌, ◌*◌, zero, suc, List, [], ◌∷◌, Option, Some, None}
use Rattle.std.specs.List.{AllByRecursion}
use Rattle.nir_ir.specs.declared.ids.BlockId.{BlockId}
use Rattle.nir_ir.specs.Nodes.{Nodes, Nil, BlockThen, IfThen, LoopThen, nodes_of}
use Rattle.nir_ir.specs.Shader.{Shader}
use Rattle.nir_mean.specs.declared.frames.Frame.{Frame}
use Rattle.nir_mean.specs.declared.frames.Frame.TheVariants.{Rest, Again}
use Rattle.nir_mean.specs.declared.frames.Step.{Step}
use Rattle.nir_mean.specs.declared.frames.Step.TheVariants.{Run, End}
use Rattle.nir_mean.specs.declared.frames.Turn.{Turn}
use Rattle.nir_mean.specs.declared.outcome.Outcome.{Outcome}
use Rattle.nir_mean.specs.Outcome.{outcome_of, told}
use Rattle.nir_mean.specs.Run.{Exit, Cut, Setting, after_fall, after_turn, run_list, turns}
use Rattle.nir_mean.specs.Sound.{NodesSound}
use Rattle.nir_mean.specs.State.{State}

-- after a turn of a loop with so many repeats left
abbrev pub turned : Setting → ℕ → Nodes → Exit → Exit
turned s zero body exit = after_turn exit (λ _ last. Cut last)
turned s (suc n) body exit = after_turn exit (turns n (run_list s body))

-- after what a frame stands under
abbrev pub under : Setting → Frame → Exit → Exit
under s (Rest rest) exit = after_fall exit (run_list s (nodes_of rest.now))
under s (Again turn) exit = turned s turn.left (nodes_of turn.body.now) exit

-- after all frames, the last of which is met first
abbrev pub resumed : Setting → List Frame → Exit → Exit
resumed s [] exit = exit
resumed s (frame ∷ above) exit = under s frame (resumed s above exit)

-- the outcome of what is left
abbrev pub outcome_after : Setting → List Frame → Exit → Outcome
outcome_after s frames exit = outcome_of (resumed s frames exit)

-- how many steps a list takes at the most
abbrev pub cost : ℕ → Nodes → ℕ
cost n Nil = 1
cost n (BlockThen b rest) = 1 + cost n rest
cost n (IfThen id condition first second rest) = 1 + cost n first + cost n second + cost n rest
cost n (LoopThen id body rest) = 1 + (n + 1) * (1 + cost n body) + cost n rest

abbrev pub turn_cost : ℕ → Turn → ℕ
turn_cost n turn = 1 + turn.left * (1 + cost n (nodes_of turn.body.now))

abbrev pub frame_cost : ℕ → Frame → ℕ
frame_cost n (Rest rest) = cost n (nodes_of rest.now)
frame_cost n (Again turn) = turn_cost n turn

abbrev pub frames_cost : ℕ → List Frame → ℕ
frames_cost n [] = 0
frames_cost n (frame ∷ above) = frame_cost n frame + frames_cost n above

-- the loop that a jump leaves or goes back in, where there is one
abbrev pub left_by : Setting → Option Turn → Exit → Exit
left_by s None exit = exit
left_by s (Some turn) exit = turned s turn.left (nodes_of turn.body.now) exit

abbrev pub turn_cost_of : ℕ → Option Turn → ℕ
turn_cost_of n None = 0
turn_cost_of n (Some turn) = turn_cost n turn

abbrev pub FrameSound : Shader → Frame → Type 0
FrameSound s (Rest rest) = NodesSound s (nodes_of rest.now)
FrameSound s (Again turn) = NodesSound s (nodes_of turn.body.now)

abbrev pub FramesSound : Shader → List Frame → Type 0
FramesSound s frames = AllByRecursion (FrameSound s) frames

-- what is run next has the same outcome, and is less
pub record Goes (s : Shader) (given : Setting) (whole : Outcome) (limit : ℕ) (frames : List Frame) (nodes : Nodes) (from : Option BlockId) (state : State) : Type 0 where
  pub same : outcome_after given frames (run_list given nodes from state) ≡ whole
  pub less : cost given.repeats nodes + frames_cost given.repeats frames < limit
  pub sound : NodesSound s nodes
  pub sound_under : FramesSound s frames

-- a step goes on, or the run ends
abbrev pub Stepped : Shader → Setting → Outcome → ℕ → List Frame → State → Step → Type 0
Stepped s given whole limit frames state (Run nodes from) = Goes s given whole limit frames (nodes_of nodes.now) from state
Stepped s given whole limit frames state (End ending) = told ending state.world ≡ whole
