use Rattle.std.proofs.Common.{arith}
use Rattle.nir_mean.specs.Seen.{setting_of, shader_of}
use Rattle.nir_mean.proofs.FrameLemmas.{continues_some, stepped_more}
use Rattle.nir_mean.proofs.frames.continue_loop.Goals as goal

pub returns-in_ok-step-in-Some : goal.returns-in_ok-step-in-Some
returns-in_ok-step-in-Some c = λ state.
    stepped_more (shader_of c.args.given.now) (setting_of c.args.given.now) _ _ _ _ c.go_back.new.stack.items state c.in_ok-step-in-Some.step
    (continues_some (setting_of c.args.given.now) c.args.stack.now.items c.leave_loop.new.stack.items c.in-Some.turn c.args.from state (c.in-Some.ensures.continues c.args.from state))
    (omega (arith, c.in-Some.ensures.cost))
    (c.in_ok-step-in-Some.ensures state)
