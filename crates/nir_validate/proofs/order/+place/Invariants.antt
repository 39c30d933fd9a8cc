-- the pass so far, and past what comes, is the whole
use Rattle.std.proofs.Common.{◌≡◌, drop}
use Rattle.nir_ir.specs.Nodes.{nodes_of}
use Rattle.nir_validate.specs.Placing.{placed, placed_in}
use Rattle.nir_validate.proofs.order.+place.Given as goal

abbrev pub invariant-place_list-loop-node : goal.invariant-place_list-loop-node
invariant-place_list-loop-node l = placed l.row l.pass (nodes_of (drop l.node-index l.list)) ≡ placed_in l.owner l.fn.pass (nodes_of l.list)
