-- so many components are there as were counted
use Rattle.std.proofs.Common.{◌≡◌, ◌≤◌, replicate}
use Rattle.rewrite_pass.proofs.build.equal_components.Given as goal

abbrev pub invariant-loop-at : goal.invariant-loop-at
invariant-loop-at l = (l.comps ≡ replicate l._at l.word) × (l._at ≤ l.count)
