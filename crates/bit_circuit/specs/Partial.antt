-- One step of a product: the sum so far, and the product of a word with one bit of the other, at its place.
use Rattle.std.specs.Prelude.{ℕ, ◌-◌, List, ◌++◌, map, length, replicate, take}
use Rattle.circuit_laws.specs.Literals.{Lit, no}
use Rattle.circuit_laws.specs.Gates.{And}
use Rattle.circuit_laws.specs.Blocks.{Block, row, after, behind, adder, sum_of}

abbrev pub part : List Lit → Lit → ℕ → ℕ → Block
part xs y i n = row (map (λ x. And x y) (take (length xs - i) xs)) n

abbrev pub sum_behind : Block → ℕ → List Lit → ℕ → Block
sum_behind first i acc n = sum_of (adder acc (replicate i no ++ first.word) no (behind n first.gates))

abbrev pub with_part : List Lit → Lit → ℕ → List Lit → ℕ → Block
with_part xs y i acc n = after (part xs y i n) (sum_behind (part xs y i n) i acc n)
