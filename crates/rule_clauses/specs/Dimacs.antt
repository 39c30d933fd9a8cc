-- The DIMACS CNF form of clauses, as SAT solvers read it: a head with the greatest variable and the number of clauses, then a line for each clause.
use Rattle.std.specs.Prelude.{◌≡◌, refl, ◌++◌, ℕ, suc, ℤ, pos, negsuc, max, List, [], ◌∷◌, codes, decimal, length, unsigned_abs}
use Rattle.std.specs.Fmt.{digits}
use Rattle.std.specs.List.{flat_map}
use Rattle.clause_check.specs.Logs.{Clause}

-- a variable, or its negation
abbrev pub literal_text : ℤ → List ℕ
literal_text (pos n) = decimal n
literal_text (negsuc n) = codes "-" ++ decimal (suc n)

-- a clause ends with 0, which is no literal
abbrev pub clause_line : Clause → List ℕ
clause_line clause = flat_map (λ literal. literal_text literal ++ codes " ") clause ++ codes "0\n"

-- the greatest variable of a clause, and of clauses; 0 where there is none
abbrev pub greatest_in : Clause → ℕ
greatest_in [] = 0
greatest_in (literal ∷ others) = max (unsigned_abs literal) (greatest_in others)

abbrev pub greatest_variable : List Clause → ℕ
greatest_variable [] = 0
greatest_variable (clause ∷ others) = max (greatest_in clause) (greatest_variable others)

abbrev pub head_line : ℕ → ℕ → List ℕ
head_line variables clauses = codes "p cnf " ++ decimal variables ++ codes " " ++ decimal clauses ++ codes "\n"

unfoldable pub dimacs_text : List Clause → List ℕ
dimacs_text clauses = head_line (greatest_variable clauses) (length clauses) ++ flat_map clause_line clauses

-- worked: variable 1, not 3 or 12, and the empty clause, which nothing makes true
dimacs-worked : dimacs_text ((pos 1 ∷ []) ∷ (negsuc 2 ∷ pos 12 ∷ []) ∷ [] ∷ []) ≡ codes "p cnf 12 3\n1 0\n-3 12 0\n0\n"
unfolding dimacs_text digits
dimacs-worked = refl
