use Rattle.std.proofs.Common.{◌≡◌, ◌^◌, ◌<◌, ℕ, List, length, sym, ap, subst, arith}
use Rattle.nir_ops.specs.Width.{width_bits}
use Rattle.nir_ir.specs.declared.kind.Kind.{Kind}
use Rattle.nir_mean.specs.State.{width_bytes}
use Rattle.nir_mean.specs.ViewLaws.{AreWords}
use Rattle.nir_mean.proofs.MadeLemmas.{bytes_word, made_count, made_more, words_more}
use Rattle.nir_mean.proofs.world.load_all.Goals as goal

pub push-requires : goal.push-requires
push-requires c =
    let count : length c.loop-at.comps ≡ c.loop-at.at = made_count _ c.loop-at.comps c.loop-at.at c.loop-at.invariant.value in
    omega arith

pub loop-at-preserved : goal.loop-at-preserved
loop-at-preserved c =
    let small : c.loaded.result < 256 ^ width_bytes c.args.kind.width = subst (λ (n : ℕ). c.loaded.result < 256 ^ n) c.width_bytes-size.ensures.value c.loaded.ensures.small in
    record {
      value = made_more _ c.loop-at.comps c.push.new.self c.loaded.result c.loop-at.at c.loop-at.invariant.value c.loaded.ensures.value c.push.ensures;
      words = subst (λ (list : List ℕ). AreWords (width_bits c.args.kind.width) list) (sym c.push.ensures)
          (words_more (width_bits c.args.kind.width) c.loop-at.comps c.loaded.result c.loop-at.invariant.words (bytes_word c.args.kind.width c.loaded.result small));
    }

pub invariant_of-result : goal.invariant_of-result
invariant_of-result c = record { fits = c.loop-at.invariant.words }

pub returns-clause-kind : goal.returns-clause-kind
returns-clause-kind c =
    let kind : ℕ → Kind = λ n. record { width = c.args.kind.width; count = n } in
    let count : length c.loop-at.comps ≡ c.loop-at.at = made_count _ c.loop-at.comps c.loop-at.at c.loop-at.invariant.value in
    let all : length c.loop-at.comps ≡ c.args.kind.count = omega arith in
    ap kind all
