-- the nodes before the place are their own classes
use Rattle.std.proofs.Common.{◌≡◌, ℕ, ◌<◌, length}
use Rattle.size_infer.specs.Options.{listed}
use Rattle.size_infer.proofs.classes.each_alone.Given as goal

abbrev pub invariant-loop-node : goal.invariant-loop-node
invariant-loop-node l = record {
  long : length l.first ≡ 98;
  alone : (node : ℕ) → node < l.node → listed l.first node ≡ node;
}
