-- what was copied, and what is copied behind it, is the whole list
use Rattle.std.proofs.Common.{◌≡◌, ◌++◌, drop, length}
use Rattle.nir_search.proofs.view.copy_of.Given as goal

abbrev pub invariant-loop-at : goal.invariant-loop-at
invariant-loop-at l = (l.comps ++ drop l.at-index l.at-items ≡ l.at-items) × (length l.comps ≡ l.at-index)
