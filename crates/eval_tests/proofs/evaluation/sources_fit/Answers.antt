use Rattle.std.proofs.Common.{◌≡◌, ◌∙◌, sym, ap, arith, length, map}
use Rattle.nir_ops.specs.Opcodes.{op_info}
use Rattle.op_eval.specs.Calls.{size_at, source_widths}
use Rattle.list_laws.specs.PlaceLaws.{take_whole}
use Rattle.eval_tests.proofs.evaluation.sources_fit.Goals as goal

pub returns : goal.returns
unfolding source_widths
returns c = λ given.
    let sources : c.as_slice-sources.result.now ≡ (op_info c.args.op).inputs = c.as_slice-sources.ensures.value ∙ ap (λ row. row.inputs) c.info-sources.ensures in
    let all : c.loop-at.at ≡ length c.args.widths.now = omega arith in
    let all_sources : c.loop-at.at ≡ length c.as_slice-sources.result.now = omega arith in
    ap (map (λ input. size_at input.kind.size c.args.width)) (sym sources)
    ∙ ap (map (λ input. size_at input.kind.size c.args.width)) (sym (take_whole c.as_slice-sources.result.now c.loop-at.at all_sources))
    ∙ c.loop-at.invariant
    ∙ take_whole c.args.widths.now c.loop-at.at all
