-- the pass so far, and past what comes, is the whole
use Rattle.std.proofs.Common.{◌≡◌, drop}
use Rattle.nir_ir.specs.Nodes.{nodes_of}
use Rattle.nir_validate.specs.KindTable.{kinds_in}
use Rattle.nir_validate.specs.Passing.{passed_in}
use Rattle.nir_validate.proofs.first.+pass.Given as goal

abbrev pub invariant-pass_list-loop-node : goal.invariant-pass_list-loop-node
invariant-pass_list-loop-node l = passed_in (kinds_in l.kinds) l.shader l.in_loop l.pass (nodes_of (drop l.node-index l.list)) ≡ passed_in (kinds_in l.kinds) l.shader l.in_loop l.fn.pass (nodes_of l.list)
