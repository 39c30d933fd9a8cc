use Rattle.std.proofs.Common.{◌≡◌, drop}
use Rattle.std.specs.Prelude.{find}
use Rattle.std.specs.Option.{option_map}
use Rattle.std.specs.Str.{bytes_eq}
use Rattle.nir_text.specs.KindTable.{entries_of}
use Rattle.nir_text.proofs.kinds.first_with_word.Given as goal

-- what the rest of the list answers is the answer
abbrev pub invariant-loop-entry : goal.invariant-loop-entry
invariant-loop-entry l =
    option_map (λ entry. entry.kind) (find (λ entry. bytes_eq entry.word l.word) (entries_of (drop l.entry-index l.words)))
    ≡ option_map (λ entry. entry.kind) (find (λ entry. bytes_eq entry.word l.word) (entries_of l.words))
