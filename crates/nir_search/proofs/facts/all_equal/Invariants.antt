-- all before the place are the word
use Rattle.std.proofs.Common.{◌≡◌, drop, nat_eq, slice_index}
use Rattle.std.specs.List.{list_all}
use Rattle.nir_search.proofs.facts.all_equal.Given as goal

abbrev pub invariant-loop-at : goal.invariant-loop-at
invariant-loop-at l = list_all (λ c. nat_eq (slice_index l.comps c) l.word) (drop l.at-index l.places) ≡ list_all (λ c. nat_eq (slice_index l.comps c) l.word) l.places
