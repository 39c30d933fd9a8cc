use Rattle.std.proofs.Common.{◌+◌, ◌∙◌, ap, drop, map}
use Rattle.nir_ir.specs.Items.{InstrItem}
use Rattle.nir_index.specs.Index.{noted}
use Rattle.nir_index.proofs.NotedLemmas.{noted-end, noted-step}
use Rattle.nir_index.proofs.index.note_instrs.Goals as goal

pub loop-instr-preserved : goal.loop-instr-preserved
loop-instr-preserved c =
    ap (noted (map InstrItem (drop (c.loop-instr.instr-index + 1) c.args.instrs.now))) c.in_ok-note_instr.ensures
    ∙ noted-step InstrItem c.args.instrs.now c.loop-instr.instr-index c.instr-item.result c.loop-instr.index c.loop-instr-test.true c.instr-item.is
    ∙ c.loop-instr.invariant

pub returns : goal.returns
returns c = noted-end InstrItem c.args.instrs.now c.loop-instr.instr-index c.loop-instr.index c.loop-instr-test.false ∙ c.loop-instr.invariant
