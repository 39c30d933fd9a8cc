use Rattle.std.proofs.Common.{◌∙◌, ap, map}
use Rattle.nir_ir.specs.Items.{InstrItem, PhiItem, block_items}
use Rattle.nir_index.specs.Index.{noted}
use Rattle.nir_index.proofs.NotedLemmas.{if_ok-same, noted-block}
use Rattle.nir_index.proofs.index.note_block.Goals as goal

pub returns : goal.returns
returns c =
    if_ok-same c.note_instrs.result c.note_instrs.new.index (noted (map InstrItem c.as_slice-2.result.now) c.note_phis.new.index) (noted (block_items c.args.block.now) c.args.index.now)
    (ap (λ list. noted (map InstrItem list) c.note_phis.new.index) c.as_slice-2.ensures
    ∙ ap (noted (map InstrItem c.args.block.now.instrs)) c.in_ok-note_phis.ensures
    ∙ ap (λ list. noted (map InstrItem c.args.block.now.instrs) (noted (map PhiItem list) c.args.index.now)) c.as_slice.ensures
    ∙ noted-block c.args.block.now c.args.index.now)
    c.note_instrs.ensures
