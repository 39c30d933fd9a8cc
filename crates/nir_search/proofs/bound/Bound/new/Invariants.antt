-- so many slots are there as were counted
use Rattle.std.proofs.Common.{◌≡◌, ◌≤◌, None, replicate}
use Rattle.nir_search.proofs.bound.Bound.new.Given as goal

abbrev pub invariant-loop-var : goal.invariant-loop-var
invariant-loop-var l = (l.slots.items ≡ replicate l._var None) × (l._var ≤ l.vars)
