use Rattle.std.proofs.Common.{◌∙◌, None, map, ap, subst}
use Rattle.nir_ir.specs.Shader.{Shader}
use Rattle.nir_ir.specs.Shaped.{IsShaped}
use Rattle.nir_mean.specs.Outcome.{outcome, outcome_of, setting}
use Rattle.nir_mean.specs.Run.{run_list}
use Rattle.nir_mean.specs.State.{State, zeros}
use Rattle.nir_mean.specs.Table.{values_of}
use Rattle.nir_mean.proofs.StartLemmas.{start_state, typed_sound}
use Rattle.nir_mean.proofs.evaluation.evaluate.Goals as goal

pub run_body-requires-clause-body : goal.run_body-requires-clause-body
run_body-requires-clause-body c = typed_sound c.args.shader.now (subst IsShaped c.shader.view_is c.shader.invariant) c.requires.typed

pub returns : goal.returns
unfolding outcome
returns c =
    c.in_ok-ending.ensures
    ∙ ap (λ (state : State). outcome_of (run_list (setting c.args.shader.now c.args.inputs.now c.args.turns) c.args.shader.now.body None state))
    (start_state c.args.shader.now (values_of c.in_ok-start_table.field-0.views) c.in_ok-start_buffers.field-0 c.args.buffers.now c.in_ok-start_outputs.field-0 c.new.result
    c.in_ok-start_table.ensures.values
    (c.in_ok-start_buffers.ensures ∙ c.as_slice.ensures)
    (c.in_ok-start_outputs.ensures ∙ ap (map zeros) (c.as_slice-2.ensures ∙ ap (λ (s : Shader). s.outputs) c.shader.view_is))
    c.new.ensures)
