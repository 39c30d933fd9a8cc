use Rattle.std.proofs.Common.{◌≡◌, ◌<◌, ◌^◌, ℕ, sym, subst, arith, length}
use Rattle.std.specs.Prelude.{slice_index}
use Rattle.std.proofs.lemmas.Nat.{pow_pos}
use Rattle.nir_ops.specs.Width.{width_bits}
use Rattle.op_eval.specs.Calls.{unsized_width}
use Rattle.op_eval.specs.Meaning.{op_mean}
use Rattle.op_eval.specs.Views.{column, views_comps, views_widths}
use Rattle.op_eval.proofs.ViewLemmas.{made_count, made_more, made_small}
use Rattle.op_eval.proofs.WordLemmas.{residue_lt}
use Rattle.op_eval.proofs.whole_list.each_place.Goals as goal

pub push-requires : goal.push-requires
push-requires c =
    let count : length c.loop-at.comps ≡ c.loop-at.at = made_count _ c.loop-at.comps c.loop-at.at c.loop-at.invariant in
    omega (arith, c.len-count.ensures.fits)

pub loop-at-preserved : goal.loop-at-preserved
loop-at-preserved c =
    let f : ℕ → ℕ = λ at. op_mean c.args.op (width_bits (unsized_width c.args.op c.args.dst (views_widths c.args.args.now))) (width_bits c.args.dst) (column at (views_comps c.args.args.now)) in
    made_more f c.loop-at.comps c.push.new.self c.place.result c.loop-at.at c.loop-at.invariant c.place.ensures.value c.push.ensures

pub invariant_of-out : goal.invariant_of-out
unfolding op_mean
invariant_of-out c =
    let f : ℕ → ℕ = λ at. op_mean c.args.op (width_bits (unsized_width c.args.op c.args.dst (views_widths c.args.args.now))) (width_bits c.args.dst) (column at (views_comps c.args.args.now)) in
    record {
      fits = λ at. subst (λ list. slice_index list at < 2 ^ width_bits c.args.dst) (sym c.loop-at.invariant)
          (made_small f (2 ^ width_bits c.args.dst) (λ place. residue_lt (width_bits c.args.dst) _) (pow_pos (width_bits c.args.dst)) 0 c.loop-at.at at);
    }
