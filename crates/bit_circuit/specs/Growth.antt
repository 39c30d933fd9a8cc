-- What a circuit gains: variables, clauses, and gates with their clauses.
use Rattle.std.specs.Prelude.{suc, List, [], ◌∷◌, ◌++◌}
use Rattle.circuit_laws.specs.Literals.{Lit, numbers_of}
use Rattle.circuit_laws.specs.Gates.{Gate, gate_clauses}
use Rattle.bit_circuit.specs.declared.circuit.Circuit.{Circuit}

unfoldable pub with_variable : Circuit → Circuit
with_variable k = record k { next = suc k.next }

-- one more clause
unfoldable pub asked : Circuit → List Lit → Circuit
asked k ls = record k { clauses = k.clauses ++ numbers_of ls ∷ [] }

abbrev pub all_asked : Circuit → List (List Lit) → Circuit
all_asked k [] = k
all_asked k (ls ∷ rest) = all_asked (asked k ls) rest

-- one more gate, which makes the next variable
unfoldable pub with_gate : Circuit → Gate → Circuit
with_gate k g = all_asked (with_variable k) (gate_clauses k.next g)

abbrev pub grown : Circuit → List Gate → Circuit
grown k [] = k
grown k (g ∷ gs) = grown (with_gate k g) gs
