-- The gates of two literals.
use Rattle.circuit_laws.specs.Literals.{Lit}
use Rattle.circuit_laws.specs.Gates.{Gate}
use Rattle.circuit_laws.specs.Gates as gate
use Rattle.bit_circuit.specs.declared.row.Pairing.{Pairing}
use Rattle.bit_circuit.specs.declared.row.Pairing.TheVariants.{And, Xor, Mux}

abbrev pub gate_by : Pairing → Lit → Lit → Gate
gate_by And = gate.And
gate_by Xor = gate.Xor
gate_by (Mux selector) = gate.Mux selector
