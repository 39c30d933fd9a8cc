use Rattle.std.proofs.Common.{◌+◌, ◌∙◌, ap, drop, map}
use Rattle.nir_ir.specs.declared.node.PhiSource.{PhiSource}
use Rattle.nir_index.specs.Index.{counted}
use Rattle.nir_index.proofs.TallyLemmas.{counted-end, counted-step_get}
use Rattle.nir_index.proofs.index.count_sources.Goals as goal

pub loop-source-preserved : goal.loop-source-preserved
loop-source-preserved c =
    ap (counted (map (λ (source : PhiSource). source.value) (drop (c.loop-source.source-index + 1) c.args.sources.now))) c.in_ok-count_use.ensures
    ∙ counted-step_get (λ (source : PhiSource). source.value) c.args.sources.now c.loop-source.source-index _ c.loop-source.counts c.loop-source-test.true
    ∙ c.loop-source.invariant

pub returns : goal.returns
returns c = counted-end (λ (source : PhiSource). source.value) c.args.sources.now c.loop-source.source-index c.loop-source.counts c.loop-source-test.false ∙ c.loop-source.invariant
