use Rattle.std.proofs.Common.{◌∙◌, ◌++◌, ◌∷◌, [], ap}
use Rattle.nir_mean.specs.declared.frames.Frame.{Frame}
use Rattle.nir_mean.specs.Seen.{setting_of, shader_of}
use Rattle.nir_mean.proofs.FrameLemmas.{falls_again, goes_rest}
use Rattle.nir_mean.proofs.frames.fall.Goals as goal

pub returns-in-Some-Rest : goal.returns-in-Some-Rest
returns-in-Some-Rest c = λ state.
    goes_rest (shader_of c.args.given.now) (setting_of c.args.given.now) c.args.stack.now.items c.pop.new.self.items c.in-Some-Rest.rest c.args.from state c.requires
    (c.in-Some-Rest.ensures.items ∙ ap (λ (frame : Frame). c.pop.new.self.items ++ frame ∷ []) c.in-Some-Rest.field-0-is)

pub returns-in_ok-step-in-Some-Again : goal.returns-in_ok-step-in-Some-Again
returns-in_ok-step-in-Some-Again c = λ state.
    falls_again (shader_of c.args.given.now) (setting_of c.args.given.now) c.args.stack.now.items c.pop.new.self.items c.go_back.new.stack.items c.in-Some-Again.turn c.args.from state _
    (c.in-Some-Again.ensures.items ∙ ap (λ (frame : Frame). c.pop.new.self.items ++ frame ∷ []) c.in-Some-Again.field-0-is)
    (c.in_ok-step-in-Some-Again.ensures state)
