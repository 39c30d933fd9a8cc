-- How a lent item of a list comes back: the list ends with the last value that was written through the loan at its place.
use Rattle.std.specs.Prelude.{ℕ, List, slice_set}
use Rattle.std.specs.Borrow.{Lends, MutBor, Fml}
use denote.RattleType.{RattleType}
use Rattle.nir_host.specs.contracts.seq.Seq.{the_row}

-- `list` ends with item `at` set to the last value behind `item`
abbrev pub LendsItem : (T : RattleType) → MutBor (List T.Denot) → ℕ → MutBor T.Denot → Fml
LendsItem T list at item = Lends (the_row T) T list item (slice_set list.now at)
