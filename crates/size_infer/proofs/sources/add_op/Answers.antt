use Rattle.std.proofs.Common.{◌≡◌, ap}
use Rattle.std.proofs.lemmas.Result.{on_ok_weaker}
use Rattle.nir_ops.specs.Opcodes.{op_info}
use Rattle.size_infer.proofs.SourceLemmas.{op_added}
use Rattle.size_infer.proofs.sources.add_op.Goals as goal

pub returns : goal.returns
returns c =
    let row = c.info-row.result in
    let inputs : c.as_slice.result.now ≡ (op_info c.args.op).inputs = cc in
    on_ok_weaker c.add_sources.result
    (op_added c.args.op c.args.place row.out.size c.as_slice.result.now c.args.sources.now c.unsized_place-free.result c.of_op.result c.written.result c.args.rules.now c.push.new.self c.push-2.new.self c.add_sources.new.rules
    (ap (λ r. r.out.size) c.info-row.ensures) inputs c.unsized_place-free.ensures c.in_ok-push.ensures.ok c.of_op.ensures c.in_ok-push-2.ensures.ok c.written.ensures)
    c.add_sources.ensures
