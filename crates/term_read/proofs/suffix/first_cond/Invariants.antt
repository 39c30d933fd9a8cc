use Rattle.std.proofs.Common.{◌≡◌, drop}
use Rattle.std.specs.Prelude.{find}
use Rattle.std.specs.Option.{option_map}
use Rattle.std.specs.Str.{bytes_eq}
use Rattle.term_read.specs.Views.{cond_entries}
use Rattle.term_read.proofs.suffix.first_cond.Given as goal

-- what the rest of the list answers is the answer
abbrev pub invariant-loop-entry : goal.invariant-loop-entry
invariant-loop-entry l =
    option_map (λ entry. entry.cond) (find (λ entry. bytes_eq entry.text l.text) (cond_entries (drop l.entry-index l.entries)))
    ≡ option_map (λ entry. entry.cond) (find (λ entry. bytes_eq entry.text l.text) (cond_entries l.entries))
