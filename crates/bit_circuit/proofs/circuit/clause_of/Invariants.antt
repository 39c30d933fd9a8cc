use Rattle.std.proofs.Common.{◌≡◌, take}
use Rattle.circuit_laws.specs.Literals.{numbers_of}
use Rattle.bit_circuit.proofs.circuit.clause_of.Given as goal

-- the clause has the literals so far
abbrev pub invariant-loop-literal : goal.invariant-loop-literal
invariant-loop-literal l = l.clause ≡ numbers_of (take l.literal-index l.literals)
