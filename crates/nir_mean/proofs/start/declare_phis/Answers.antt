use Rattle.std.proofs.Common.{arith}
use Rattle.nir_ir.specs.Items.{PhiItem}
use Rattle.nir_mean.specs.Declares.{declares}
use Rattle.nir_mean.proofs.DeclareLemmas.{declared-drop, declared-past, told_end, told_more}
use Rattle.nir_mean.proofs.start.declare_phis.Goals as goal

pub loop-phi-preserved : goal.loop-phi-preserved
loop-phi-preserved c =
    told_more c.args.table.now.views c.loop-phi.table.views c.declare.new.table.views _ _ (declares (PhiItem c.phi-item.result)) _
    (declared-drop PhiItem c.args.phis.now c.loop-phi.phi-index c.phi-item.result c.loop-phi-test.true c.phi-item.is)
    c.declare.ensures.shown c.declare.ensures.len c.loop-phi.invariant

pub returns-clause-shown : goal.returns-clause-shown
returns-clause-shown c = told_end c.args.table.now.views c.loop-phi.table.views _ _ (declared-past PhiItem c.args.phis.now c.loop-phi.phi-index (omega arith)) c.loop-phi.invariant
