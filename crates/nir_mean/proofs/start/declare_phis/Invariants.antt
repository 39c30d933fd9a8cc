-- the phis that are left, told, make the whole
use Rattle.std.proofs.Common.{map, drop}
use Rattle.std.specs.List.{flat_map}
use Rattle.nir_ir.specs.Items.{PhiItem}
use Rattle.nir_mean.specs.Declares.{declares}
use Rattle.nir_mean.proofs.DeclareLemmas.{IsTold}
use Rattle.nir_mean.proofs.start.declare_phis.Given as goal

abbrev pub invariant-loop-phi : goal.invariant-loop-phi
invariant-loop-phi l = IsTold l.initial.table.views (flat_map declares (map PhiItem l.phis)) l.table.views (flat_map declares (map PhiItem (drop l.phi-index l.phis)))
