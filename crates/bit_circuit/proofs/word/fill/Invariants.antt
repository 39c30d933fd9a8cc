use Rattle.std.proofs.Common.{◌≡◌, ◌++◌, replicate}
use Rattle.bit_circuit.proofs.word.fill.Given as goal

abbrev pub invariant-loop-at : goal.invariant-loop-at
invariant-loop-at l = l.word ≡ l.fn.word ++ replicate l._at l.literal
