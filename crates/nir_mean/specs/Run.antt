-- The run of a shader's lists: each node from the block that control came from, with at most so many repeats of a loop for each time that it is entered.
use Rattle.std.specs.Prelude.{ℕ, zero, suc, Bool, cond, nat_eq, List, [], ◌∷◌, Option, Some, None, slice_index}
use Rattle.std.specs.List.{find, slice_index_or}
use Rattle.std.specs.Option.{option_map_or, unwrap_or}
use Rattle.nir_ops.specs.declared.width.Width.TheVariants.{W1}
use Rattle.nir_ir.specs.declared.ids.BlockId.{BlockId}
use Rattle.nir_ir.specs.declared.ids.ValueId.{ValueId}
use Rattle.nir_ir.specs.declared.kind.Kind.{Kind}
use Rattle.nir_ir.specs.declared.instr.Instr.{Instr}
use Rattle.nir_ir.specs.declared.instr.Instr.TheVariants.{Alu, Const, Undef, Input, Output, LoadBuf, StoreBuf}
use Rattle.nir_ir.specs.declared.node.Block.{Block}
use Rattle.nir_ir.specs.declared.node.Jump.{Jump}
use Rattle.nir_ir.specs.declared.node.Jump.TheVariants as jump
use Rattle.nir_ir.specs.declared.node.Phi.{Phi}
use Rattle.nir_ir.specs.Definitions.{Kinds, is_from}
use Rattle.nir_ir.specs.Items.{target}
use Rattle.nir_ir.specs.Nodes.{Nodes, Nil, BlockThen, IfThen, LoopThen}
use Rattle.nir_mean.specs.State.{State, World, load, put_out, store, with_target, zeros}
use Rattle.nir_mean.specs.Values.{Values, alu_mean}

-- what a run is given: the kinds of the values, the components of each input, and the number of repeats
pub record Setting : Type 0 where
  pub kinds : Kinds
  pub inputs : List (List ℕ)
  pub repeats : ℕ

-- the one component of an offset or of a condition
abbrev pub scalar : Values → ValueId → ℕ
scalar values id = slice_index (values id.0) 0

-- the kind of a stored value; each value that is used is defined
abbrev pub kind_of : Kinds → ValueId → Kind
kind_of kinds id = unwrap_or (kinds id) (record { width = W1; count = 0 })

-- what an instruction makes for its target
abbrev pub value_of : Setting → Instr → State → List ℕ
value_of s (Alu id op kind srcs) state = alu_mean s.kinds op kind srcs state.values
value_of s (Const id kind comps) state = comps
value_of s (Undef id kind) state = zeros kind
value_of s (Input id kind slot) state = slice_index_or s.inputs slot []
value_of s (Output effect slot src) state = []
value_of s (LoadBuf id kind buffer offset) state = load state.world kind buffer (scalar state.values offset)
value_of s (StoreBuf effect buffer offset src) state = []

-- what an instruction does outside of the values
abbrev pub world_of : Setting → Instr → State → World
world_of s (Alu id op kind srcs) state = state.world
world_of s (Const id kind comps) state = state.world
world_of s (Undef id kind) state = state.world
world_of s (Input id kind slot) state = state.world
world_of s (Output effect slot src) state = put_out slot (state.values src.0) state.world
world_of s (LoadBuf id kind buffer offset) state = state.world
world_of s (StoreBuf effect buffer offset src) state =
    store (record { buffer = buffer; offset = scalar state.values offset; kind = kind_of s.kinds src; comps = state.values src.0 }) state.world

abbrev pub run_instr : Setting → Instr → State → State
run_instr s instr state = record { values = with_target (target instr) (value_of s instr state) state.values; world = world_of s instr state }

abbrev pub run_instrs : Setting → List Instr → State → State
run_instrs s [] state = state
run_instrs s (instr ∷ instrs) state = run_instrs s instrs (run_instr s instr state)

-- what a phi takes: the value of its source for the block that control came from
abbrev pub phi_value : Option BlockId → Values → Phi → List ℕ
phi_value from values phi = option_map_or (λ source. values source.value.0) (find (is_from from) phi.sources) (zeros phi.kind)

-- all phis of a block read together
abbrev pub run_phis : Option BlockId → List Phi → Values → Values
run_phis from phis values n = option_map_or (phi_value from values) (find (λ phi. nat_eq phi.value.0 n) phis) (values n)

-- how a run ends, from which block, and in which state; a run that is cut has used its repeats
pub data Exit : Type 0 where
  Fall : (from : Option BlockId) (state : State) → Exit
  Break : (from : Option BlockId) (state : State) → Exit
  Continue : (from : Option BlockId) (state : State) → Exit
  Cut : (state : State) → Exit

-- a part of a shader, run from a block and a state
abbrev pub Part : Type 0
Part = Option BlockId → State → Exit

-- what is behind a part runs where control falls to it
abbrev pub after_fall : Exit → Part → Exit
after_fall (Fall from state) behind = behind from state
after_fall (Break from state) behind = Break from state
after_fall (Continue from state) behind = Continue from state
after_fall (Cut state) behind = Cut state

-- a loop falls where its body breaks, and goes back where it falls or continues
abbrev pub after_turn : Exit → Part → Exit
after_turn (Fall from state) again = again from state
after_turn (Break from state) again = Fall from state
after_turn (Continue from state) again = again from state
after_turn (Cut state) again = Cut state

-- the body once, and then again at most so many times
abbrev pub turns : ℕ → Part → Part
turns zero body from state = after_turn (body from state) (λ _ last. Cut last)
turns (suc n) body from state = after_turn (body from state) (turns n body)

abbrev pub jump_exit : Option Jump → Option BlockId → State → Exit
jump_exit None from state = Fall from state
jump_exit (Some jump.Break) from state = Break from state
jump_exit (Some jump.Continue) from state = Continue from state

-- phis, instructions, jump
abbrev pub run_block : Setting → Block → Part
run_block s b from state = jump_exit b.jump (Some b.id) (run_instrs s b.instrs (record state { values = run_phis from b.phis state.values }))

-- an if whose condition is 1 runs its first list
abbrev pub run_choice : Bool → Part → Part → Part
run_choice test first second from state = cond test (first from state) (second from state)

-- the nodes of a list, one after another
abbrev pub run_list : Setting → Nodes → Part
run_list s Nil from state = Fall from state
run_list s (BlockThen b rest) from state = after_fall (run_block s b from state) (run_list s rest)
run_list s (IfThen id condition first second rest) from state =
    after_fall (run_choice (nat_eq (scalar state.values condition) 1) (run_list s first) (run_list s second) from state) (run_list s rest)
run_list s (LoopThen id body rest) from state = after_fall (turns s.repeats (run_list s body) from state) (run_list s rest)
