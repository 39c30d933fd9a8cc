-- what is left of the list, behind what is walked so far, is the whole list
use Rattle.std.proofs.Common.{◌+◌, ◌*◌, ◌∷◌, [], length}
use Rattle.nir_ir.specs.Items.{items}
use Rattle.nir_ir.specs.Nodes.{nodes_of, IfThen, LoopThen, Nil}
use Rattle.nir_validate.proofs.ListLemmas.{Walked}
use Rattle.nir_validate.proofs.round.Round.+walk.Given as goal

abbrev pub invariant-list-loop-node : goal.invariant-list-loop-node
invariant-list-loop-node l = Walked l.fn.wait l.list l.fn.self l.fn.falls l.fn.jumps l.node-index l.wait l.self l.ways l.jumps l.left

-- the items to walk, and a list before its nodes, and a node before its parts
abbrev pub decreases-list : goal.decreases-list
decreases-list l = 3 * length (items (nodes_of l.list.now)) + 2

abbrev pub decreases-node : goal.decreases-node
decreases-node l = 3 * length (items (nodes_of (l.node.now ∷ []))) + 1

abbrev pub decreases-branch : goal.decreases-branch
decreases-branch l = 3 * length (items (IfThen l.id l.condition (nodes_of l.yes.now) (nodes_of l.no.now) Nil))

abbrev pub decreases-repeat : goal.decreases-repeat
decreases-repeat l = 3 * length (items (LoopThen l.id (nodes_of l.body.now) Nil))
