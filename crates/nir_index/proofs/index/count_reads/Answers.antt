use Rattle.std.proofs.Common.{sym}
use Rattle.nir_index.proofs.TallyLemmas.{counted-nil, counted-two}
use Rattle.nir_index.proofs.index.count_reads.Goals as goal

pub returns-in-Const : goal.returns-in-Const
returns-in-Const c = rw c.in-Const.is (sym (counted-nil c.args.counts.now))

pub returns-in-Undef : goal.returns-in-Undef
returns-in-Undef c = rw c.in-Undef.is (sym (counted-nil c.args.counts.now))

pub returns-in-Input : goal.returns-in-Input
returns-in-Input c = rw c.in-Input.is (sym (counted-nil c.args.counts.now))

pub returns-in_ok-count_use-in-StoreBuf : goal.returns-in_ok-count_use-in-StoreBuf
returns-in_ok-count_use-in-StoreBuf c =
    rw (c.in-StoreBuf.is, counted-two c.in-StoreBuf.offset c.in-StoreBuf.src c.args.counts.now, ← c.in_ok-count_use-in-StoreBuf.ensures) c.count_use-in-StoreBuf-2.ensures
