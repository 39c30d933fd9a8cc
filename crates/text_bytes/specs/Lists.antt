-- Lists as text: one part behind the other, with a comma and a blank between them.
use Rattle.std.specs.Prelude.{ℕ, List, [], ◌∷◌, ◌++◌, map, codes, decimal}
use Rattle.std.specs.List.{flat_map}

abbrev pub listed : List (List ℕ) → List ℕ
listed [] = []
listed (part ∷ parts) = part ++ flat_map (λ next. codes ", " ++ next) parts

-- numbers in unsigned decimal
abbrev pub numbers_text : List ℕ → List ℕ
numbers_text numbers = listed (map decimal numbers)
