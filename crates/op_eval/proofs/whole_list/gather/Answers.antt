use Rattle.std.proofs.Common.{◌<◌, ◌^◌, ◌∙◌, sym, subst, ap, arith, map}
use Rattle.std.specs.Prelude.{slice_index}
use Rattle.nir_ops.specs.Width.{width_bits}
use Rattle.list_laws.specs.PlaceLaws.{take_whole}
use Rattle.op_eval.proofs.ViewLemmas.{column_views, gathered_small}
use Rattle.op_eval.proofs.whole_list.gather.Goals as goal

pub returns-clause-value : goal.returns-clause-value
returns-clause-value c =
    c.loop-view.invariant
    ∙ ap (map (λ view. slice_index view.comps 0)) (take_whole c.args.args.now c.loop-view.view-index (omega arith))
    ∙ sym (column_views 0 c.args.args.now)

pub invariant_of-out : goal.invariant_of-out
invariant_of-out c = record {
  fits = λ at. subst (λ list. slice_index list at < 2 ^ width_bits c.args.dst)
      (sym (c.loop-view.invariant ∙ ap (map (λ view. slice_index view.comps 0)) (take_whole c.args.args.now c.loop-view.view-index (omega arith))))
      (gathered_small c.args.dst c.args.args.now c.requires.same at);
}
