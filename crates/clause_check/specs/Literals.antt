-- Lists of literals, as clauses have them: whole numbers, of which none is 0.
use Rattle.std.specs.Prelude.{◌≢◌, ℤ, pos, List, [], ◌∷◌, ◌++◌}
use Rattle.std.specs.List.{AllByRecursion}

abbrev pub IsLiteral : ℤ → Type 0
IsLiteral literal = literal ≢ pos 0

abbrev pub AreLiterals : List ℤ → Type 0
AreLiterals literals = AllByRecursion IsLiteral literals

-- one more literal
pub AreLiterals-push : (literals : List ℤ) (literal : ℤ) → AreLiterals literals → IsLiteral literal → AreLiterals (literals ++ literal ∷ [])
AreLiterals-push [] literal all one = (one, tt)
AreLiterals-push (first ∷ rest) literal all one = (all.0, AreLiterals-push rest literal all.1 one)
