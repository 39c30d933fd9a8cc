-- the uses so far, and then those by the phis that are left, are all
use Rattle.std.proofs.Common.{◌≡◌, ◌++◌, drop}
use Rattle.std.specs.List.{flat_map, AllByRecursion}
use Rattle.nir_ir.specs.Items.{PhiItem}
use Rattle.nir_ir.specs.Shaped.{IsShapedPhi}
use Rattle.nir_tree.specs.Listed.{uses_by}
use Rattle.nir_tree.proofs.use_list.add_phis.Given as goal

abbrev pub invariant-loop-phi : goal.invariant-loop-phi
invariant-loop-phi l = record {
  added : l.uses ++ flat_map (λ phi. uses_by l.value (PhiItem phi)) (drop l.phi-index l.phis) ≡ l.initial.uses ++ flat_map (λ phi. uses_by l.value (PhiItem phi)) l.phis;
  shaped : AllByRecursion IsShapedPhi (drop l.phi-index l.phis);
}
