-- the nodes before the place are redirected, the others are as they were
use Rattle.std.proofs.Common.{◌≡◌, ℕ, ◌<◌, ◌≤◌}
use Rattle.size_laws.specs.Places.{redirect}
use Rattle.size_infer.specs.Options.{listed}
use Rattle.size_infer.proofs.classes.redirect_all.Given as goal

abbrev pub invariant-loop-class : goal.invariant-loop-class
invariant-loop-class l = record {
  done : (node : ℕ) → node < l.class-index → listed l.first node ≡ redirect l.from l.to (listed l.fn.first node);
  left : (node : ℕ) → l.class-index ≤ node → listed l.first node ≡ listed l.fn.first node;
}
