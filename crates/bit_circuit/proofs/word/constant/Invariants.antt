-- the bits so far, and those of what is left
use Rattle.std.proofs.Common.{◌≡◌, ◌++◌, ◌-◌}
use Rattle.circuit_laws.specs.Literals.{constant}
use Rattle.bit_circuit.proofs.word.constant.Given as goal

abbrev pub invariant-loop-at : goal.invariant-loop-at
invariant-loop-at l = l.word ++ constant (l.count - l.at) l.left ≡ constant l.count l.value
