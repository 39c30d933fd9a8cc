-- so many lists are there of the sizes of the nodes before the place
use Rattle.std.proofs.Common.{◌≡◌, ◌≤◌}
use Rattle.size_infer.specs.Options.{lists_of}
use Rattle.size_infer.proofs.classes.Classes.are_too_many.Given as goal

abbrev pub invariant-loop-node : goal.invariant-loop-node
invariant-loop-node l = record {
  counted : l.count ≡ lists_of l.self l.node;
  few : l.count ≤ 64;
}
