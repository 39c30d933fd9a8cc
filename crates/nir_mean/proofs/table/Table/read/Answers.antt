use Rattle.std.proofs.Common.{◌^◌, ◌<◌, ℕ, List, sym, subst}
use Rattle.std.specs.Prelude.{slice_index}
use Rattle.nir_ops.specs.Width.{width_bits}
use Rattle.nir_ir.specs.declared.kind.Kind.{Kind}
use Rattle.nir_mean.specs.ViewLaws.{AreWords, are_words-map}
use Rattle.nir_mean.proofs.table.Table.read.Goals as goal

pub invariant_of-result : goal.invariant_of-result
invariant_of-result c = record {
  fits = subst (λ (list : List ℕ). AreWords (width_bits c.kind-width.result.width) list) (sym c.loop-entry.invariant)
      (are_words-map (width_bits c.kind-width.result.width) (λ at. slice_index c.comps-from.result.now at) _
      (λ at. subst (λ (k : Kind). slice_index c.comps-from.result.now at < 2 ^ width_bits k.width) (sym c.kind-width.ensures) (c.comps-from.ensures.words at)));
}
