-- what was taken over, and what is taken over behind it, is the whole list
use Rattle.std.proofs.Common.{◌≡◌, ◌++◌, drop, length}
use Rattle.rewrite_pass.proofs.build.view_source.Given as goal

abbrev pub invariant-loop-entry : goal.invariant-loop-entry
invariant-loop-entry l = (l.swizzle ++ drop l.entry-index l.entry-items ≡ l.entry-items) × (length l.swizzle ≡ l.entry-index)
