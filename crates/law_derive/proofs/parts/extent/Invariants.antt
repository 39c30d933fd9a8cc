use Rattle.std.proofs.Common.{◌≡◌, ◌+◌, ◌*◌, ◌≤◌, drop}
use Rattle.law_derive.specs.Nodes.{extent}
use Rattle.law_derive.proofs.parts.extent.Given as goal

-- the nodes that were passed, and those of the terms that still wait
abbrev pub invariant-nodes : goal.invariant-nodes
invariant-nodes l = record {
  so_far : l.at + extent l.waiting (drop l.at l.nodes) ≡ extent l.count l.nodes;
  few : l.waiting ≤ l.count + 4 * l.at;
}
