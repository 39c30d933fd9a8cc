use Rattle.std.proofs.Common.{◌≡◌, length}
use Rattle.law_derive.specs.Nodes.{same_nodes}
use Rattle.law_derive.proofs.same.same_nodes.Given as goal

-- whether those that are left are the same
abbrev pub invariant-nodes : goal.invariant-nodes
invariant-nodes l = record { so_far : same_nodes l.left l.right ≡ same_nodes l.nodes l.others }

abbrev pub decreases-nodes : goal.decreases-nodes
decreases-nodes l = length l.left
