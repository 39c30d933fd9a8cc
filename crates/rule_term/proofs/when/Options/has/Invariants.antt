-- none before the place is the name
use Rattle.std.proofs.Common.{◌≡◌, drop}
use Rattle.std.specs.List.{list_any}
use Rattle.std.specs.Str.{bytes_eq}
use Rattle.rule_term.proofs.when.Options.has.Given as goal

abbrev pub invariant-loop-set : goal.invariant-loop-set
invariant-loop-set l = list_any (λ set. bytes_eq set l.name) (drop l.set-index l.set-items) ≡ list_any (λ set. bytes_eq set l.name) l.set-items
