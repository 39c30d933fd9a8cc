use Rattle.std.proofs.Common.{◌≤◌, [], ◌∷◌, ◌∙◌, ap, subst, length, replicate}
use Rattle.std.specs.Prelude.{not}
use Rattle.std.proofs.lemmas.List.{length-map}
use Rattle.nir_ops.specs.Width.{width_bits}
use Rattle.op_eval.specs.Calls.{unsized_width}
use Rattle.op_eval.specs.Views.{bit_of, shape_mean, view_mean, views_comps, views_widths}
use Rattle.op_eval.proofs.ViewLemmas.{each_is, gathers_fit}
use Rattle.op_eval.proofs.whole_list.eval_view.Goals as goal

pub each_place-requires-clause-each : goal.each_place-requires-clause-each
each_place-requires-clause-each c = each_is c.args.op c.in-EachPlace.ensures

pub gather-requires-clause-few : goal.gather-requires-clause-few
gather-requires-clause-few c =
    subst (λ n. n ≤ 16) (length-map c.args.args.now (λ view. view.width)) (gathers_fit c.args.op c.args.dst (views_widths c.args.args.now) c.in-Gathers.ensures c.requires.fits).0

pub gather-requires-clause-same : goal.gather-requires-clause-same
gather-requires-clause-same c =
    (gathers_fit c.args.op c.args.dst (views_widths c.args.args.now) c.in-Gathers.ensures c.requires.fits).1
    ∙ ap (λ n. replicate n c.args.dst) (length-map c.args.args.now (λ view. view.width))

pub returns-in-EachPlace-clause-value : goal.returns-in-EachPlace-clause-value
unfolding view_mean
returns-in-EachPlace-clause-value c =
    c.each_place.ensures.value
    ∙ ap (λ shape. shape_mean shape c.args.op (width_bits (unsized_width c.args.op c.args.dst (views_widths c.args.args.now))) (width_bits c.args.dst) (length c.args.out.now.comps) (views_comps c.args.args.now)) c.in-EachPlace.ensures

pub returns-in-Gathers-clause-value : goal.returns-in-Gathers-clause-value
unfolding view_mean
returns-in-Gathers-clause-value c =
    c.gather.ensures.value
    ∙ ap (λ shape. shape_mean shape c.args.op (width_bits (unsized_width c.args.op c.args.dst (views_widths c.args.args.now))) (width_bits c.args.dst) (length c.args.out.now.comps) (views_comps c.args.args.now)) c.in-Gathers.ensures

pub returns-in-AllEqual-clause-value : goal.returns-in-AllEqual-clause-value
unfolding view_mean
returns-in-AllEqual-clause-value c =
    c.one_bit.ensures.value
    ∙ ap (λ test. bit_of test ∷ []) c.same_components.ensures
    ∙ ap (λ shape. shape_mean shape c.args.op (width_bits (unsized_width c.args.op c.args.dst (views_widths c.args.args.now))) (width_bits c.args.dst) (length c.args.out.now.comps) (views_comps c.args.args.now)) c.in-AllEqual.ensures

pub returns-in-SomeDiffer-clause-value : goal.returns-in-SomeDiffer-clause-value
unfolding view_mean
returns-in-SomeDiffer-clause-value c =
    c.one_bit-in-SomeDiffer.ensures.value
    ∙ ap (λ test. bit_of (not test) ∷ []) c.same_components-in-SomeDiffer.ensures
    ∙ ap (λ shape. shape_mean shape c.args.op (width_bits (unsized_width c.args.op c.args.dst (views_widths c.args.args.now))) (width_bits c.args.dst) (length c.args.out.now.comps) (views_comps c.args.args.now)) c.in-SomeDiffer.ensures
