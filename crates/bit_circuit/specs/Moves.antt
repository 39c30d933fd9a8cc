-- How the literals of a word move.
use Rattle.std.specs.Prelude.{ℕ, List}
use Rattle.circuit_laws.specs.Literals.{Lit}
use Rattle.circuit_laws.specs.Blocks.{raised, lowered, turned_up, turned_down}
use Rattle.bit_circuit.specs.declared.word.Move.{Move}
use Rattle.bit_circuit.specs.declared.word.Move.TheVariants.{Raise, Lower, TurnUp, TurnDown}

abbrev pub moved_by : Move → ℕ → List Lit → List Lit
moved_by (Raise fill) = raised fill
moved_by (Lower fill) = lowered fill
moved_by TurnUp = turned_up
moved_by TurnDown = turned_down
