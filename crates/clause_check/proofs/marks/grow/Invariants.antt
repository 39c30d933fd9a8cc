use Rattle.std.proofs.Common.{◌≡◌, ◌≤◌, ◌-◌, ℕ, false, get_or, length}
use Rattle.clause_check.proofs.marks.grow.Given as goal

-- flags were added that are not set
abbrev pub invariant-flags : goal.invariant-flags
invariant-flags l = record {
  same : (place : ℕ) → get_or l.flags place false ≡ get_or l.fn.flags place false;
  more : length l.fn.flags ≤ length l.flags;
}

abbrev pub decreases-flags : goal.decreases-flags
decreases-flags l = l.count - length l.flags
