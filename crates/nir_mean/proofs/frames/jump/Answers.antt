use Rattle.std.proofs.Common.{◌∙◌, Option, Some, ap, sym, arith}
use Rattle.nir_ir.specs.declared.node.Jump.{Jump}
use Rattle.nir_ir.specs.Nodes.{nodes_of}
use Rattle.nir_mean.specs.Frames.{outcome_after}
use Rattle.nir_mean.specs.Run.{after_fall, jump_exit, run_list}
use Rattle.nir_mean.specs.Seen.{setting_of, shader_of}
use Rattle.nir_mean.proofs.FrameLemmas.{cost_some, stepped_more}
use Rattle.nir_mean.proofs.frames.jump.Goals as goal

pub returns-in-Break : goal.returns-in-Break
returns-in-Break c = λ state.
    let least = cost_some c.args.given.now.turns (nodes_of c.args.rest.now) in
    stepped_more (shader_of c.args.given.now) (setting_of c.args.given.now) _ _ _ _ c.break_loop-step.new.stack.items state c.break_loop-step.result
    (sym (ap (λ (jump : Option Jump). outcome_after (setting_of c.args.given.now) c.args.stack.now.items (after_fall (jump_exit jump (Some c.args.block.now.id) state) (run_list (setting_of c.args.given.now) (nodes_of c.args.rest.now))))
    (c.in-Some.is ∙ ap Some c.in-Break.is)))
    (omega (arith, least))
    (c.break_loop-step.ensures state)

pub returns-in_ok-step-in-Continue : goal.returns-in_ok-step-in-Continue
returns-in_ok-step-in-Continue c = λ state.
    let least = cost_some c.args.given.now.turns (nodes_of c.args.rest.now) in
    stepped_more (shader_of c.args.given.now) (setting_of c.args.given.now) _ _ _ _ c.continue_loop.new.stack.items state c.in_ok-step-in-Continue.step
    (sym (ap (λ (jump : Option Jump). outcome_after (setting_of c.args.given.now) c.args.stack.now.items (after_fall (jump_exit jump (Some c.args.block.now.id) state) (run_list (setting_of c.args.given.now) (nodes_of c.args.rest.now))))
    (c.in-Some.is ∙ ap Some c.in-Continue.is)))
    (omega (arith, least))
    (c.in_ok-step-in-Continue.ensures state)
