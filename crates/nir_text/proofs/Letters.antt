-- Letters that were read before, and those that are still read.
use Rattle.std.proofs.Common.{ℕ, List, ◌++◌, Option}
use Rattle.std.specs.Option.{option_map}

abbrev pub with_letters : List ℕ → Option (List ℕ) → Option (List ℕ)
with_letters front rest = option_map (λ others. front ++ others) rest
