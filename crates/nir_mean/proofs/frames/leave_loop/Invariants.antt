-- what a jump meets on the frames that are left is what it meets on all
use Rattle.std.proofs.Common.{◌≡◌, ◌≤◌, Option, vec_len}
use Rattle.nir_ir.specs.declared.ids.BlockId.{BlockId}
use Rattle.nir_mean.specs.Frames.{FramesSound, frames_cost, resumed}
use Rattle.nir_mean.specs.Run.{Break, Continue}
use Rattle.nir_mean.specs.Seen.{setting_of, shader_of}
use Rattle.nir_mean.specs.State.{State}
use Rattle.nir_mean.proofs.frames.leave_loop.Given as goal

abbrev pub invariant-loop-frame : goal.invariant-loop-frame
invariant-loop-frame l = record {
  sound : FramesSound (shader_of l.given) l.stack.items;
  cost : frames_cost l.given.turns l.stack.items ≤ frames_cost l.given.turns l.initial.stack.items;
  breaks : (from : Option BlockId) (state : State) → resumed (setting_of l.given) l.initial.stack.items (Break from state) ≡ resumed (setting_of l.given) l.stack.items (Break from state);
  continues : (from : Option BlockId) (state : State) → resumed (setting_of l.given) l.initial.stack.items (Continue from state) ≡ resumed (setting_of l.given) l.stack.items (Continue from state);
}

abbrev pub decreases-loop-frame : goal.decreases-loop-frame
decreases-loop-frame l = vec_len l.stack
