use Rattle.std.proofs.Common.{◌+◌, ◌∙◌, ap, drop, map}
use Rattle.nir_ir.specs.Items.{PhiItem}
use Rattle.nir_index.specs.Index.{noted}
use Rattle.nir_index.proofs.NotedLemmas.{noted-end, noted-step}
use Rattle.nir_index.proofs.index.note_phis.Goals as goal

pub loop-phi-preserved : goal.loop-phi-preserved
loop-phi-preserved c =
    ap (noted (map PhiItem (drop (c.loop-phi.phi-index + 1) c.args.phis.now))) c.in_ok-note_phi.ensures
    ∙ noted-step PhiItem c.args.phis.now c.loop-phi.phi-index c.phi-item.result c.loop-phi.index c.loop-phi-test.true c.phi-item.is
    ∙ c.loop-phi.invariant

pub returns : goal.returns
returns c = noted-end PhiItem c.args.phis.now c.loop-phi.phi-index c.loop-phi.index c.loop-phi-test.false ∙ c.loop-phi.invariant
