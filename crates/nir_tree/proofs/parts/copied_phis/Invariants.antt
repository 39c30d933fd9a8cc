-- the phis so far, and then those that are left, are all
use Rattle.std.proofs.Common.{◌≡◌, ◌++◌, drop}
use Rattle.nir_tree.proofs.parts.copied_phis.Given as goal

abbrev pub invariant-loop-phi : goal.invariant-loop-phi
invariant-loop-phi l = l.copy ++ drop l.phi-index l.phis ≡ l.phis
