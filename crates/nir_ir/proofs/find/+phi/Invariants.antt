-- no node before the place defines the value
use Rattle.std.proofs.Common.{◌≡◌, drop}
use Rattle.nir_ir.specs.Nodes.{nodes_of}
use Rattle.nir_ir.specs.Definitions.{phi_defining}
use Rattle.nir_ir.proofs.find.+phi.Given as goal

abbrev pub invariant-phi_in_list-loop-node : goal.invariant-phi_in_list-loop-node
invariant-phi_in_list-loop-node l = phi_defining l.value (nodes_of (drop l.node-index l.list)) ≡ phi_defining l.value (nodes_of l.list)
