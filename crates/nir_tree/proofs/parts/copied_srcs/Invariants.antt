-- the sources so far, and then those that are left, are all
use Rattle.std.proofs.Common.{◌≡◌, ◌++◌, drop}
use Rattle.nir_tree.proofs.parts.copied_srcs.Given as goal

abbrev pub invariant-loop-src : goal.invariant-loop-src
invariant-loop-src l = l.copy ++ drop l.src-index l.fn.srcs ≡ l.fn.srcs
