-- the phis that are left, written, make the whole
use Rattle.std.proofs.Common.{◌≡◌, map, take}
use Rattle.op_eval.specs.Views.{views_comps}
use Rattle.nir_mean.specs.Phis.{written}
use Rattle.nir_mean.specs.Seen.{shader_of}
use Rattle.nir_mean.specs.Table.{IsTable, kind_seen, values_of}
use Rattle.nir_mean.proofs.phis.write_phis.Given as goal

abbrev pub invariant-loop-at : goal.invariant-loop-at
invariant-loop-at l = record {
  table : IsTable (shader_of l.given) l.table.views;
  kinds : map kind_seen l.read.items ≡ map (λ phi. phi.kind) (take l.at l.phis);
  rest : written (take l.at l.phis) (views_comps l.read.items) (values_of l.table.views) ≡ written l.phis (views_comps l.initial.read.items) (values_of l.initial.table.views);
}
