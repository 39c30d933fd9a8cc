-- What a circuit gains by the variables of a rule, and by parts: gates, and clauses that ask for more.
use Rattle.std.specs.Prelude.{ℕ, ◌+◌, List, [], ◌∷◌}
use Rattle.circuit_laws.specs.RuleClauses.{Part}
use Rattle.bit_circuit.specs.declared.circuit.Circuit.{Circuit}
use Rattle.bit_circuit.specs.Growth.{all_asked, grown}

-- so many more variables
abbrev pub with_variables : Circuit → ℕ → Circuit
with_variables k count = record k { next = k.next + count }

abbrev pub with_part : Circuit → Part → Circuit
with_part k part = all_asked (grown k part.gates) part.demands

abbrev pub with_parts : Circuit → List Part → Circuit
with_parts k [] = k
with_parts k (part ∷ parts) = with_parts (with_part k part) parts
