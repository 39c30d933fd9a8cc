use Rattle.std.proofs.Common.{◌+◌, ◌∙◌, ap, drop}
use Rattle.std.specs.List.{flat_map}
use Rattle.nir_ir.specs.Items.{reads}
use Rattle.nir_index.specs.Index.{counted}
use Rattle.nir_index.proofs.TallyLemmas.{counted-gives, counted-gives_end}
use Rattle.nir_index.proofs.exchange.count_instrs.Goals as goal

pub loop-instr-preserved : goal.loop-instr-preserved
loop-instr-preserved c =
    ap (counted (flat_map reads (drop (c.loop-instr.instr-index + 1) c.args.instrs.now))) c.in_ok-count_reads.ensures
    ∙ counted-gives reads c.args.instrs.now c.loop-instr.instr-index c.instr-item.result c.loop-instr.counts c.loop-instr-test.true c.instr-item.is
    ∙ c.loop-instr.invariant

pub returns : goal.returns
returns c = counted-gives_end reads c.args.instrs.now c.loop-instr.instr-index c.loop-instr.counts c.loop-instr-test.false ∙ c.loop-instr.invariant
