use Rattle.std.proofs.Common.{arith}
use Rattle.nir_ir.specs.Items.{InstrItem}
use Rattle.nir_mean.specs.Declares.{declares}
use Rattle.nir_mean.proofs.DeclareLemmas.{declared-drop, declared-past, fit_here, told_end, told_more}
use Rattle.nir_mean.proofs.start.declare_instrs.Goals as goal

pub loop-instr-preserved : goal.loop-instr-preserved
loop-instr-preserved c =
    told_more c.args.table.now.views c.loop-instr.table.views c.declare_instr.new.table.views _ _ (declares (InstrItem c.instr-item.result)) _
    (declared-drop InstrItem c.args.instrs.now c.loop-instr.instr-index c.instr-item.result c.loop-instr-test.true c.instr-item.is)
    c.declare_instr.ensures.shown c.declare_instr.ensures.len c.loop-instr.invariant

pub returns-clause-shown : goal.returns-clause-shown
returns-clause-shown c = told_end c.args.table.now.views c.loop-instr.table.views _ _ (declared-past InstrItem c.args.instrs.now c.loop-instr.instr-index (omega arith)) c.loop-instr.invariant

pub declare_instr-requires : goal.declare_instr-requires
declare_instr-requires c =
    fit_here c.args.table.now.views c.loop-instr.table.views _ _ (declares (InstrItem c.instr-item.result)) _
    (declared-drop InstrItem c.args.instrs.now c.loop-instr.instr-index c.instr-item.result c.loop-instr-test.true c.instr-item.is) c.loop-instr.invariant
