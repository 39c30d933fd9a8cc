-- What reads and writes do to the bytes that a source has left and a sink has taken, where these are told: of `None` nothing is said.
use Rattle.std.specs.Prelude.{◌≡◌, ℕ, List, [], ◌++◌, Option, Some}

-- the bytes left begin with these, and lose them
abbrev pub Loses : Option (List ℕ) → Option (List ℕ) → List ℕ → Type 0
Loses before now bytes = (left : List ℕ) → before ≡ Some left → (rest : List ℕ) × (now ≡ Some rest) × (left ≡ bytes ++ rest)

-- no byte is left
abbrev pub IsSpent : Option (List ℕ) → Type 0
IsSpent now = (left : List ℕ) → now ≡ Some left → left ≡ []

-- the bytes taken grow by these at their end
abbrev pub Gains : Option (List ℕ) → Option (List ℕ) → List ℕ → Type 0
Gains before now bytes = (taken : List ℕ) → before ≡ Some taken → now ≡ Some (taken ++ bytes)
