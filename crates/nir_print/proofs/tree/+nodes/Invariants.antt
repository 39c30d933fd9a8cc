-- the lines that are written and those of the nodes that are left make all
use Rattle.std.proofs.Common.{◌≡◌, ◌++◌, drop}
use Rattle.nir_ir.specs.Nodes.{nodes_of}
use Rattle.nir_print.specs.Text.{nodes_text}
use Rattle.nir_print.proofs.tree.+nodes.Given as goal

abbrev pub invariant-push_nodes-loop-node : goal.invariant-push_nodes-loop-node
invariant-push_nodes-loop-node l = l.out.items ++ nodes_text l.naming l.indent (nodes_of (drop l.node-index l.list)) ≡ l.fn.out.items ++ nodes_text l.naming l.indent (nodes_of l.list)
