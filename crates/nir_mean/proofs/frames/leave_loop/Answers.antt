use Rattle.std.proofs.Common.{◌≡◌, ◌∙◌, ◌++◌, ◌∷◌, [], ◌+◌, ap, arith}
use Rattle.nir_mean.specs.declared.frames.Frame.{Frame}
use Rattle.nir_mean.specs.declared.frames.Frame.TheVariants.{Rest, Again}
use Rattle.nir_mean.specs.Frames.{frame_cost, frames_cost, turn_cost}
use Rattle.nir_mean.specs.Run.{Break, Continue}
use Rattle.nir_mean.specs.Seen.{setting_of, shader_of}
use Rattle.nir_mean.proofs.FrameLemmas.{pop_cost, pop_exit, pop_frame, pop_sound}
use Rattle.nir_mean.proofs.frames.leave_loop.Goals as goal

pub loop-frame-preserved : goal.loop-frame-preserved
loop-frame-preserved c =
    let rest : Frame = Rest c.in-Rest.field-0 in
    let is : c.loop-frame.stack.items ≡ c.pop.new.self.items ++ rest ∷ [] = c.in-Some.ensures.items ∙ ap (λ (frame : Frame). c.pop.new.self.items ++ frame ∷ []) (c.in-Rest.is) in
    let fewer : frames_cost c.args.given.now.turns c.loop-frame.stack.items ≡ frames_cost c.args.given.now.turns c.pop.new.self.items + frame_cost c.args.given.now.turns rest =
    pop_cost c.args.given.now.turns c.loop-frame.stack.items c.pop.new.self.items rest is in
    record {
      sound = pop_sound (shader_of c.args.given.now) c.loop-frame.stack.items c.pop.new.self.items rest is c.loop-frame.invariant.sound;
      cost = omega (arith, fewer, c.loop-frame.invariant.cost);
      breaks = λ from state. c.loop-frame.invariant.breaks from state ∙ pop_exit (setting_of c.args.given.now) c.loop-frame.stack.items c.pop.new.self.items rest (Break from state) is;
      continues = λ from state. c.loop-frame.invariant.continues from state ∙ pop_exit (setting_of c.args.given.now) c.loop-frame.stack.items c.pop.new.self.items rest (Continue from state) is;
    }

pub returns-in-Again-clause-body : goal.returns-in-Again-clause-body
returns-in-Again-clause-body c =
    pop_frame (shader_of c.args.given.now) c.loop-frame.stack.items c.pop.new.self.items (Again c.in-Again.turn)
    (c.in-Some.ensures.items ∙ ap (λ (frame : Frame). c.pop.new.self.items ++ frame ∷ []) c.in-Again.is) c.loop-frame.invariant.sound

pub returns-in-Again-clause-cost : goal.returns-in-Again-clause-cost
returns-in-Again-clause-cost c =
    let fewer : frames_cost c.args.given.now.turns c.loop-frame.stack.items ≡ frames_cost c.args.given.now.turns c.pop.new.self.items + turn_cost c.args.given.now.turns c.in-Again.turn =
    pop_cost c.args.given.now.turns c.loop-frame.stack.items c.pop.new.self.items (Again c.in-Again.turn)
    (c.in-Some.ensures.items ∙ ap (λ (frame : Frame). c.pop.new.self.items ++ frame ∷ []) c.in-Again.is) in
    omega (arith, fewer, c.loop-frame.invariant.cost)

pub returns-in-Again-clause-breaks : goal.returns-in-Again-clause-breaks
returns-in-Again-clause-breaks c = λ from state.
    c.loop-frame.invariant.breaks from state
    ∙ pop_exit (setting_of c.args.given.now) c.loop-frame.stack.items c.pop.new.self.items (Again c.in-Again.turn) (Break from state)
    (c.in-Some.ensures.items ∙ ap (λ (frame : Frame). c.pop.new.self.items ++ frame ∷ []) c.in-Again.is)

pub returns-in-Again-clause-continues : goal.returns-in-Again-clause-continues
returns-in-Again-clause-continues c = λ from state.
    c.loop-frame.invariant.continues from state
    ∙ pop_exit (setting_of c.args.given.now) c.loop-frame.stack.items c.pop.new.self.items (Again c.in-Again.turn) (Continue from state)
    (c.in-Some.ensures.items ∙ ap (λ (frame : Frame). c.pop.new.self.items ++ frame ∷ []) c.in-Again.is)
