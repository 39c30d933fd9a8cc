-- the nodes that are left, told, make the whole
use Rattle.std.proofs.Common.{drop}
use Rattle.nir_ir.specs.Nodes.{nodes_of}
use Rattle.nir_mean.specs.Declares.{declared}
use Rattle.nir_mean.proofs.DeclareLemmas.{IsTold}
use Rattle.nir_mean.proofs.start.+declare.Given as goal

abbrev pub invariant-declare_list-loop-node : goal.invariant-declare_list-loop-node
invariant-declare_list-loop-node l = IsTold l.initial.table.views (declared (nodes_of l.list)) l.table.views (declared (nodes_of (drop l.node-index l.list)))
