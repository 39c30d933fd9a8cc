-- what is left leads to what all of them lead to
use Rattle.std.proofs.Common.{◌≡◌, drop, fold, map}
use Rattle.nir_ir.specs.Items.{PhiItem}
use Rattle.nir_print.specs.Naming.{with_item}
use Rattle.nir_print.proofs.collect.collect_phis.Given as goal

abbrev pub invariant-loop-phi : goal.invariant-loop-phi
invariant-loop-phi l = fold with_item l.found (map PhiItem (drop l.phi-index l.phis)) ≡ fold with_item l.fn.found (map PhiItem l.phis)
