-- the uses so far, and then those in the nodes that are left, are all
use Rattle.std.proofs.Common.{◌≡◌, ◌++◌, drop}
use Rattle.std.specs.List.{AllByRecursion}
use Rattle.nir_ir.specs.Items.{items}
use Rattle.nir_ir.specs.Nodes.{nodes_of}
use Rattle.nir_ir.specs.Shaped.{IsShapedItem}
use Rattle.nir_tree.specs.Listed.{uses_in}
use Rattle.nir_tree.proofs.use_list.+users.Given as goal

abbrev pub invariant-add_list-loop-node : goal.invariant-add_list-loop-node
invariant-add_list-loop-node l = record {
  added : l.uses ++ uses_in l.value (nodes_of (drop l.node-index l.list)) ≡ l.initial.uses ++ uses_in l.value (nodes_of l.list);
  shaped : AllByRecursion IsShapedItem (items (nodes_of (drop l.node-index l.list)));
}
