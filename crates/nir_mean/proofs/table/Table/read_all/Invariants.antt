-- the sources so far
use Rattle.std.proofs.Common.{◌≡◌, map, take}
use Rattle.op_eval.specs.Views.{views_comps, views_widths}
use Rattle.nir_mean.specs.Table.{kinds_of, values_of}
use Rattle.nir_mean.specs.Values.{read}
use Rattle.nir_mean.proofs.table.Table.read_all.Given as goal

abbrev pub invariant-loop-src : goal.invariant-loop-src
invariant-loop-src l = record {
  widths : views_widths l.out.items ≡ map (λ src. (kinds_of l.self.views src.value.0).width) (take l.src-index l.srcs);
  comps : views_comps l.out.items ≡ map (read (values_of l.self.views)) (take l.src-index l.srcs);
}
