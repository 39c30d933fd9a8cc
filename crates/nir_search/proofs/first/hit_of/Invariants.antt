-- none of the variants before this one matches, and each of them counted a step
use Rattle.std.proofs.Common.{◌≡◌, ◌≤◌, ◌+◌, ◌-◌, Some, slice_get}
use Rattle.std.specs.List.{range_with_len}
use Rattle.rule_term.specs.Rule.{Rule}
use Rattle.rule_term.specs.Variants.{variant_count}
use Rattle.nir_search.specs.First.{first_variant}
use Rattle.nir_search.proofs.first.hit_of.Given as goal

abbrev pub invariant-loop-variant : goal.invariant-loop-variant
invariant-loop-variant g l = record {
  found :
      (rule : Rule) → slice_get l.table.rules l.place ≡ Some rule
      → first_variant rule l.place l.work.shader.body l.value (range_with_len l.variant (variant_count rule - l.variant))
      ≡ first_variant rule l.place l.work.shader.body l.value (range_with_len 0 (variant_count rule));
  counted : l.steps ≤ l.fn.steps + l.variant;
}
