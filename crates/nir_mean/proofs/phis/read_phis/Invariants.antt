-- what the phis so far take
use Rattle.std.proofs.Common.{◌≡◌, map, take}
use Rattle.op_eval.specs.Views.{views_comps}
use Rattle.nir_mean.specs.Run.{phi_value}
use Rattle.nir_mean.specs.Table.{kind_seen, values_of}
use Rattle.nir_mean.proofs.phis.read_phis.Given as goal

abbrev pub invariant-loop-phi : goal.invariant-loop-phi
invariant-loop-phi l = record {
  kinds : map kind_seen l.out.items ≡ map (λ phi. phi.kind) (take l.phi-index l.phis);
  comps : views_comps l.out.items ≡ map (phi_value l.from (values_of l.table.views)) (take l.phi-index l.phis);
}
