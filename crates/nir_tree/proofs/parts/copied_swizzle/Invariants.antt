-- the entries so far, and then those that are left, are all
use Rattle.std.proofs.Common.{◌≡◌, ◌++◌, drop, length}
use Rattle.nir_tree.proofs.parts.copied_swizzle.Given as goal

abbrev pub invariant-loop-entry : goal.invariant-loop-entry
invariant-loop-entry l = record {
  made : l.copy ++ drop l.entry-index l.swizzle ≡ l.swizzle;
  count : length l.copy ≡ l.entry-index;
}
