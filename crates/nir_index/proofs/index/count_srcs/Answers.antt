use Rattle.std.proofs.Common.{◌+◌, ◌∙◌, ap, drop, map}
use Rattle.nir_ir.specs.declared.instr.Src.{Src}
use Rattle.nir_index.specs.Index.{counted}
use Rattle.nir_index.proofs.TallyLemmas.{counted-end, counted-step}
use Rattle.nir_index.proofs.index.count_srcs.Goals as goal

pub loop-src-preserved : goal.loop-src-preserved
loop-src-preserved c =
    ap (counted (map (λ (src : Src). src.value) (drop (c.loop-src.src-index + 1) c.args.srcs.now))) c.in_ok-count_use.ensures
    ∙ counted-step (λ (src : Src). src.value) c.args.srcs.now c.loop-src.src-index c.src-item.result c.loop-src.counts c.loop-src-test.true c.src-item.is
    ∙ c.loop-src.invariant

pub returns : goal.returns
returns c = counted-end (λ (src : Src). src.value) c.args.srcs.now c.loop-src.src-index c.loop-src.counts c.loop-src-test.false ∙ c.loop-src.invariant
