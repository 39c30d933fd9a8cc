-- the table so far, told what comes, is the one told all
use Rattle.std.proofs.Common.{◌≡◌, drop}
use Rattle.nir_ir.specs.Nodes.{nodes_of}
use Rattle.nir_validate.specs.KindTable.{told_in}
use Rattle.nir_validate.proofs.kinds.+tell.Given as goal

abbrev pub invariant-tell_list-loop-node : goal.invariant-tell_list-loop-node
invariant-tell_list-loop-node l = told_in (nodes_of (drop l.node-index l.list)) l.kinds ≡ told_in (nodes_of l.list) l.fn.kinds
