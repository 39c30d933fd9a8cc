-- A literal as the code stores it: the number of its variable, and whether it is the negation.
use Rattle.std.specs.Prelude.{◌≡◌, refl, ℕ, Bool, true, false}
use Rattle.circuit_laws.specs.Literals.{Lit, Is, IsNot}
use Rattle.bit_circuit.specs.declared.literal.Literal.TheInside.{Inside}

abbrev pub lit_of : Bool → ℕ → Lit
lit_of true var = IsNot var
lit_of false var = Is var

abbrev pub var_of : Lit → ℕ
var_of (Is var) = var
var_of (IsNot var) = var

abbrev pub is_negation : Lit → Bool
is_negation (Is var) = false
is_negation (IsNot var) = true

same : (test : Bool) (var : ℕ) → (var_of (lit_of test var) ≡ var) × (is_negation (lit_of test var) ≡ test)
same true var = (refl, refl)
same false var = (refl, refl)

whole : (test : Bool) (var : ℕ) → let stored : Inside = record { var = var; negated = test } in let back : Inside = record { var = var_of (lit_of test var); negated = is_negation (lit_of test var) } in back ≡ stored
whole true var = refl
whole false var = refl

pub stored_ok : (l : Inside) → let back : Inside = record { var = var_of (lit_of l.negated l.var); negated = is_negation (lit_of l.negated l.var) } in back ≡ l
stored_ok l = whole l.negated l.var
