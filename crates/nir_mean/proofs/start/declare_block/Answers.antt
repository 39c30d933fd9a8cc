use Rattle.std.proofs.Common.{length}
use Rattle.nir_mean.proofs.DeclareLemmas.{block_fit_instrs, block_fit_phis, block_told}
use Rattle.nir_mean.proofs.start.declare_block.Goals as goal

pub declare_phis-requires : goal.declare_phis-requires
declare_phis-requires c = block_fit_phis (length c.args.table.now.views) c.args.block.now c.as_slice.result.now c.as_slice.ensures c.requires

pub declare_instrs-requires : goal.declare_instrs-requires
declare_instrs-requires c =
    block_fit_instrs (length c.args.table.now.views) (length c.declare_phis.new.table.views) c.args.block.now c.as_slice-2.result.now c.declare_phis.ensures.len c.as_slice-2.ensures c.requires

pub returns-clause-shown : goal.returns-clause-shown
returns-clause-shown c =
    block_told c.args.table.now.views c.declare_phis.new.table.views c.declare_instrs.new.table.views c.args.block.now c.as_slice.result.now c.as_slice-2.result.now
    c.as_slice.ensures c.as_slice-2.ensures c.declare_phis.ensures.shown c.declare_instrs.ensures.shown
