-- all before the place meet the condition
use Rattle.std.proofs.Common.{◌≡◌, drop, slice_index}
use Rattle.std.specs.List.{list_all}
use Rattle.nir_ops.specs.Width.{width_bits}
use Rattle.rule_term.specs.Conditions.{cond_holds}
use Rattle.nir_search.proofs.facts.all_meet.Given as goal

abbrev pub invariant-loop-at : goal.invariant-loop-at
invariant-loop-at l =
    list_all (λ c. cond_holds l.cond (width_bits l.width) (slice_index l.comps c)) (drop l.at-index l.places)
    ≡ list_all (λ c. cond_holds l.cond (width_bits l.width) (slice_index l.comps c)) l.places
