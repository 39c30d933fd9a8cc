use Rattle.std.proofs.Common.{◌∙◌, [], ◌∷◌, ap, sym}
use Rattle.nir_ir.specs.Items.{reads}
use Rattle.nir_index.specs.Index.{uncounted}
use Rattle.nir_index.proofs.TallyLemmas.{uncounted-nil, uncounted-two}
use Rattle.nir_index.proofs.exchange.drop_reads.Goals as goal

pub returns-in-Const : goal.returns-in-Const
returns-in-Const c = rw c.in-Const.is (sym (uncounted-nil c.args.counts.now))

pub returns-in-Undef : goal.returns-in-Undef
returns-in-Undef c = rw c.in-Undef.is (sym (uncounted-nil c.args.counts.now))

pub returns-in-Input : goal.returns-in-Input
returns-in-Input c = rw c.in-Input.is (sym (uncounted-nil c.args.counts.now))

pub returns-in-StoreBuf : goal.returns-in-StoreBuf
returns-in-StoreBuf c =
    c.drop_use-in-StoreBuf-2.ensures
    ∙ ap (uncounted (c.in-StoreBuf.src ∷ [])) c.drop_use-in-StoreBuf.ensures
    ∙ sym (uncounted-two c.in-StoreBuf.offset c.in-StoreBuf.src c.args.counts.now)
    ∙ ap (λ instr. uncounted (reads instr) c.args.counts.now) (sym c.in-StoreBuf.is)
