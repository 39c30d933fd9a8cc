use Rattle.std.proofs.Common.{◌≡◌, ◌+◌, ◌*◌, ◌-◌}
use Rattle.nir_ir.specs.Nodes.{nodes_of}
use Rattle.nir_text.specs.Table.{naming}
use Rattle.nir_text.specs.Tree.{list_at, nodes_at}
use Rattle.nir_text.specs.View.{point}
use Rattle.nir_text.proofs.Turns.{with_nodes}
use Rattle.nir_text.proofs.tree.+lists.Given as goal

abbrev pub decreases-list_at : goal.decreases-list_at
decreases-list_at l = 4 * l.depth

abbrev pub decreases-nodes_at : goal.decreases-nodes_at
decreases-nodes_at l = 4 * l.depth + 3

abbrev pub decreases-node_at : goal.decreases-node_at
decreases-node_at l = 4 * l.depth + 2

abbrev pub decreases-if_at : goal.decreases-if_at
decreases-if_at l = 4 * l.depth + 1

abbrev pub decreases-loop_at : goal.decreases-loop_at
decreases-loop_at l = 4 * l.depth + 1

abbrev pub invariant-nodes_at-nodes : goal.invariant-nodes_at-nodes
invariant-nodes_at-nodes l = with_nodes (nodes_of l.list) (nodes_at (list_at (naming l.names) l.depth) (naming l.names) (l.fuel - l._turn) (point l.at)) ≡ nodes_at (list_at (naming l.names) l.depth) (naming l.names) l.fuel (point l.fn.p)
