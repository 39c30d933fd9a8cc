use Rattle.std.proofs.Common.{◌+◌, ◌∙◌, ap, drop, map}
use Rattle.nir_ir.specs.declared.instr.Src.{Src}
use Rattle.nir_index.specs.Index.{uncounted}
use Rattle.nir_index.proofs.TallyLemmas.{uncounted-end, uncounted-step}
use Rattle.nir_index.proofs.exchange.drop_srcs.Goals as goal

pub loop-src-preserved : goal.loop-src-preserved
loop-src-preserved c =
    ap (uncounted (map (λ (src : Src). src.value) (drop (c.loop-src.src-index + 1) c.args.srcs.now))) c.drop_use.ensures
    ∙ uncounted-step (λ (src : Src). src.value) c.args.srcs.now c.loop-src.src-index c.src-item.result c.loop-src.counts c.loop-src-test.true c.src-item.is
    ∙ c.loop-src.invariant

pub returns : goal.returns
returns c = uncounted-end (λ (src : Src). src.value) c.args.srcs.now c.loop-src.src-index c.loop-src.counts c.loop-src-test.false ∙ c.loop-src.invariant
