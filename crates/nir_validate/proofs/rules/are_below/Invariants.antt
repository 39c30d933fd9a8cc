-- what comes decides
use Rattle.std.proofs.Common.{◌≡◌, drop, nat_lt}
use Rattle.std.specs.List.{list_all}
use Rattle.nir_validate.proofs.rules.are_below.Given as goal

abbrev pub invariant-loop-entry : goal.invariant-loop-entry
invariant-loop-entry l = list_all (λ entry. nat_lt entry l.count) (drop l.entry-index l.entries) ≡ list_all (λ entry. nat_lt entry l.count) l.entries
