-- Literals of variables, words of them with the lowest bit first, and clauses. Variable 0 is true.
use Rattle.std.specs.Prelude.{◌+◌, ◌*◌, ◌/◌, ◌%◌, ℕ, zero, suc, ℤ, pos, negsuc, Bool, not, true, false, ◌&&◌, ◌||◌, ◌==◌, cond, List, [], ◌∷◌, map}

-- a variable, or its negation
pub data Lit : Type 0 where
  Is : ℕ → Lit
  IsNot : ℕ → Lit

abbrev pub negated : Lit → Lit
negated (Is v) = IsNot v
negated (IsNot v) = Is v

abbrev pub yes : Lit
yes = Is 0

abbrev pub no : Lit
no = IsNot 0

-- the truth of a literal under an assignment
abbrev pub lit : (ℕ → Bool) → Lit → Bool
lit α (Is v) = α v
lit α (IsNot v) = not (α v)

abbrev pub bit : Bool → ℕ
bit test = cond test 1 0

-- the number that a word stands for
abbrev pub word : (ℕ → Bool) → List Lit → ℕ
word α [] = 0
word α (l ∷ ls) = bit (lit α l) + 2 * word α ls

-- a clause asks for one true literal, and clauses ask for each of them
abbrev pub some_of : (ℕ → Bool) → List Lit → Bool
some_of α [] = false
some_of α (l ∷ ls) = lit α l || some_of α ls

abbrev pub all_of : (ℕ → Bool) → List (List Lit) → Bool
all_of α [] = true
all_of α (c ∷ cs) = some_of α c && all_of α cs

-- so many variables one after another, from this one on
abbrev pub variables : ℕ → ℕ → List Lit
variables n zero = []
variables n (suc k) = Is n ∷ variables (suc n) k

-- a number as a word of so many constant literals
abbrev pub constant : ℕ → ℕ → List Lit
constant zero v = []
constant (suc k) v = cond (v % 2 == 1) yes no ∷ constant k (v / 2)

-- as a solver writes them: the variables have the numbers from 1 on, and a number below 0 is a negation
abbrev pub number_of : Lit → ℤ
number_of (Is v) = pos (suc v)
number_of (IsNot v) = negsuc v

abbrev pub numbers_of : List Lit → List ℤ
numbers_of ls = map number_of ls

abbrev pub all_numbers_of : List (List Lit) → List (List ℤ)
all_numbers_of cs = map numbers_of cs
