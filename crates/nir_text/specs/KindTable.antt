-- The table of the words of kinds as the grammar sees it.
use Rattle.std.specs.Prelude.{ℕ, List, map}
use Rattle.std.specs.Borrow.{Bor}
use Rattle.nir_ops.specs.declared.width.Width.{Width}
use Rattle.nir_text.specs.Kinds.{KindWord}

abbrev pub entries_of : List (Bor (List ℕ) × Width × ℕ) → List KindWord
entries_of entries = map (λ entry. record { word = entry.0.now; kind = record { width = entry.1; count = entry.2 } }) entries
