-- Gates and their clauses (the encoding of circuits after Tseitin): gate number i of a list that begins at a variable makes variable i behind it.
use Rattle.std.specs.Prelude.{◌≡◌, ℕ, suc, Bool, not, ◌&&◌, ◌<◌, ◌==◌, cond, List, [], ◌∷◌, ◌++◌}
use Rattle.circuit_laws.specs.Literals.{Lit, Is, IsNot, negated, lit}

pub data Gate : Type 0 where
  And : Lit → Lit → Gate
  Xor : Lit → Lit → Gate
  -- the second literal where the first is true, else the third
  Mux : Lit → Lit → Lit → Gate

-- the clauses of the gate that makes this variable
abbrev pub gate_clauses : ℕ → Gate → List (List Lit)
gate_clauses g (And p q) = (IsNot g ∷ p ∷ []) ∷ (IsNot g ∷ q ∷ []) ∷ (Is g ∷ negated p ∷ negated q ∷ []) ∷ []
gate_clauses g (Xor p q) =
    (IsNot g ∷ p ∷ q ∷ []) ∷ (IsNot g ∷ negated p ∷ negated q ∷ []) ∷ (Is g ∷ negated p ∷ q ∷ []) ∷ (Is g ∷ p ∷ negated q ∷ []) ∷ []
gate_clauses g (Mux s p q) =
    (negated s ∷ negated p ∷ Is g ∷ []) ∷ (negated s ∷ p ∷ IsNot g ∷ []) ∷ (s ∷ negated q ∷ Is g ∷ []) ∷ (s ∷ q ∷ IsNot g ∷ []) ∷ []

abbrev pub clauses_of : ℕ → List Gate → List (List Lit)
clauses_of n [] = []
clauses_of n (g ∷ gs) = gate_clauses n g ++ clauses_of (suc n) gs

abbrev pub differ : Bool → Bool → Bool
differ p q = cond p (not q) q

-- what a gate makes of its sources
abbrev pub gate_value : (ℕ → Bool) → Gate → Bool
gate_value α (And p q) = lit α p && lit α q
gate_value α (Xor p q) = differ (lit α p) (lit α q)
gate_value α (Mux s p q) = cond (lit α s) (lit α p) (lit α q)

-- the variable of each gate has what the gate makes
abbrev pub AreMade : (ℕ → Bool) → ℕ → List Gate → Type 0
AreMade α n [] = Unit {0}
AreMade α n (g ∷ gs) = (α n ≡ gate_value α g) × AreMade α (suc n) gs

-- ---- sources stand before their gates

abbrev pub var_of : Lit → ℕ
var_of (Is v) = v
var_of (IsNot v) = v

abbrev pub IsBelow : ℕ → Lit → Type 0
IsBelow n l = var_of l < n

abbrev pub AreBelow : ℕ → List Lit → Type 0
AreBelow n [] = Unit {0}
AreBelow n (l ∷ ls) = IsBelow n l × AreBelow n ls

abbrev pub SourcesBelow : ℕ → Gate → Type 0
SourcesBelow n (And p q) = IsBelow n p × IsBelow n q
SourcesBelow n (Xor p q) = IsBelow n p × IsBelow n q
SourcesBelow n (Mux s p q) = IsBelow n s × IsBelow n p × IsBelow n q

abbrev pub AreOrdered : ℕ → List Gate → Type 0
AreOrdered n [] = Unit {0}
AreOrdered n (g ∷ gs) = SourcesBelow n g × AreOrdered (suc n) gs

-- ---- the values of all variables, gate by gate

abbrev pub given : (ℕ → Bool) → ℕ → Bool → ℕ → Bool
given α n b v = cond (v == n) b (α v)

abbrev pub run : (ℕ → Bool) → ℕ → List Gate → ℕ → Bool
run α n [] = α
run α n (g ∷ gs) = run (given α n (gate_value α g)) (suc n) gs
