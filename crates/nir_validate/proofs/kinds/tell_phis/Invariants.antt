-- the table so far, told what comes, is the one told all
use Rattle.std.proofs.Common.{◌≡◌, drop, map}
use Rattle.nir_ir.specs.Items.{PhiItem}
use Rattle.nir_validate.specs.KindTable.{told_all}
use Rattle.nir_validate.proofs.kinds.tell_phis.Given as goal

abbrev pub invariant-loop-phi : goal.invariant-loop-phi
invariant-loop-phi l = told_all (map PhiItem (drop l.phi-index l.phis)) l.kinds ≡ told_all (map PhiItem l.phis) l.fn.kinds
