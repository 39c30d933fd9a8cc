use Rattle.std.proofs.Common.{◌≡◌, ℕ, List, length, sym, ◌∙◌, ap, subst}
use Rattle.std.proofs.lemmas.List.{length-replicate}
use Rattle.nir_ops.specs.Width.{width_bits}
use Rattle.op_eval.specs.declared.view.View.{View}
use Rattle.op_eval.specs.Calls.{Fits, unsized_width}
use Rattle.op_eval.specs.Views.{CountsFit, view_mean, views_comps, views_counts, views_widths}
use Rattle.nir_mean.specs.Seen.{shader_of}
use Rattle.nir_mean.proofs.AluLemmas.{sources_counts, sources_kind, sources_mean, sources_widths}
use Rattle.nir_mean.proofs.TableLemmas.{kind_same}
use Rattle.nir_mean.proofs.alu.alu_view.Goals as goal

pub eval_view-requires-clause-fits : goal.eval_view-requires-clause-fits
eval_view-requires-clause-fits c =
    subst (λ (views : List View). Fits c.args.op c.args.kind.width (views_widths views)) (sym c.as_slice.ensures.value)
    (sources_widths (shader_of c.args.given.now) c.args.table.now.views c.args.op c.args.kind c.args.srcs.now c.read_all.new.out.items c.requires.table
    (record { widths = c.in_ok-read_all.ensures.widths; comps = c.in_ok-read_all.ensures.comps }) c.requires.fits)

pub eval_view-requires-clause-counts : goal.eval_view-requires-clause-counts
eval_view-requires-clause-counts c =
    let count : c.args.kind.count ≡ length c.zero_view-out.result.comps = sym (ap length c.zero_view-out.ensures.comps ∙ length-replicate c.args.kind.count 0) in
    subst (λ (n : ℕ). CountsFit c.args.op n (views_counts c.as_slice.result.now)) count
    (subst (λ (views : List View). CountsFit c.args.op c.args.kind.count (views_counts views)) (sym c.as_slice.ensures.value)
    (sources_counts (shader_of c.args.given.now) c.args.table.now.views c.args.op c.args.kind c.args.srcs.now c.read_all.new.out.items
    (record { widths = c.in_ok-read_all.ensures.widths; comps = c.in_ok-read_all.ensures.comps }) c.requires.fits))

pub returns-clause-kind : goal.returns-clause-kind
returns-clause-kind c =
    let count : length c.zero_view-out.result.comps ≡ c.args.kind.count = ap length c.zero_view-out.ensures.comps ∙ length-replicate c.args.kind.count 0 in
    let made = λ (n : ℕ) (views : List View). view_mean c.args.op (width_bits (unsized_width c.args.op c.args.kind.width (views_widths views))) (width_bits c.args.kind.width) n (views_comps views) in
    let is : c.eval_view.new.out.comps ≡ made c.args.kind.count c.read_all.new.out.items =
    c.eval_view.ensures.value ∙ ap (λ n. made n c.as_slice.result.now) count ∙ ap (made c.args.kind.count) c.as_slice.ensures.value in
    let kind : length c.eval_view.new.out.comps ≡ c.args.kind.count =
    ap length is ∙ (sources_kind (shader_of c.args.given.now) c.args.table.now.views c.args.op c.args.kind c.args.srcs.now c.read_all.new.out.items c.requires.table
    (record { widths = c.in_ok-read_all.ensures.widths; comps = c.in_ok-read_all.ensures.comps }) c.requires.fits).count in
    kind_same c.eval_view.new.out c.args.kind c.eval_view.ensures.width kind

pub returns-clause-value : goal.returns-clause-value
returns-clause-value c =
    let count : length c.zero_view-out.result.comps ≡ c.args.kind.count = ap length c.zero_view-out.ensures.comps ∙ length-replicate c.args.kind.count 0 in
    let made = λ (n : ℕ) (views : List View). view_mean c.args.op (width_bits (unsized_width c.args.op c.args.kind.width (views_widths views))) (width_bits c.args.kind.width) n (views_comps views) in
    c.eval_view.ensures.value ∙ ap (λ n. made n c.as_slice.result.now) count ∙ ap (made c.args.kind.count) c.as_slice.ensures.value
    ∙ sources_mean (shader_of c.args.given.now) c.args.table.now.views c.args.op c.args.kind c.args.srcs.now c.read_all.new.out.items c.requires.table
    (record { widths = c.in_ok-read_all.ensures.widths; comps = c.in_ok-read_all.ensures.comps })
