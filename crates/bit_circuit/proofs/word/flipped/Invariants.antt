use Rattle.std.proofs.Common.{◌≡◌, take}
use Rattle.circuit_laws.specs.Blocks.{flipped}
use Rattle.bit_circuit.proofs.word.flipped.Given as goal

abbrev pub invariant-loop-literal : goal.invariant-loop-literal
invariant-loop-literal l = l.word ≡ flipped (take l.literal-index l.xs)
