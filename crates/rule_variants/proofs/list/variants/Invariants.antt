-- the sides so far are those of the variants before this one
use Rattle.std.proofs.Common.{◌≡◌, map}
use Rattle.std.specs.List.{range_with_len}
use Rattle.rule_term.specs.Variants.{variant_of}
use Rattle.rule_variants.specs.Sides.{sides_of}
use Rattle.rule_variants.proofs.list.variants.Given as goal

abbrev pub invariant-loop-variant : goal.invariant-loop-variant
invariant-loop-variant l = sides_of l.list ≡ map (variant_of l.rule.search) (range_with_len 0 l.variant)
