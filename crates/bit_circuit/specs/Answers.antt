-- What is answered to the question for the clauses of a rule at a typing.
use Rattle.std.specs.Prelude.{◌≡◌, Some, None, List, Result, Ok, Err}
use Rattle.nir_ops.specs.declared.width.Width.{Width}
use Rattle.rule_term.specs.Rule.{Rule}
use Rattle.clause_check.specs.Logs.{Clause}
use Rattle.circuit_laws.specs.RuleClauses.{first_without, rule_clauses}
use Rattle.bit_circuit.specs.declared.fault.CircuitFault.{CircuitFault}
use Rattle.bit_circuit.specs.declared.fault.CircuitFault.TheVariants as fault

-- the clauses where each opcode has a circuit, else the first that has none; memory may be wanting at any time
abbrev pub TellsClauses : Rule → List Width → Result (List Clause) CircuitFault → Type 0
TellsClauses rule widths (Ok clauses) = (first_without rule ≡ None) × (clauses ≡ rule_clauses rule widths)
TellsClauses rule widths (Err (fault.NoCircuit op)) = first_without rule ≡ Some op
TellsClauses rule widths (Err fault.OutOfMemory) = Unit {0}
