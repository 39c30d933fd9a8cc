-- the nodes so far, and then the edit of those that are left, are the edit of all
use Rattle.std.proofs.Common.{◌≡◌, drop}
use Rattle.nir_ir.specs.Nodes.{nodes_of, then}
use Rattle.nir_tree.specs.Edited.{edited}
use Rattle.nir_tree.proofs.copy.+edited.Given as goal

abbrev pub invariant-edited_list-loop-node : goal.invariant-edited_list-loop-node
invariant-edited_list-loop-node l = then (nodes_of l.copy) (edited l.edit (nodes_of (drop l.node-index l.list))) ≡ edited l.edit (nodes_of l.list)
