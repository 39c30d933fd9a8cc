use Rattle.std.proofs.Common.{refl, ◌∙◌}
use Rattle.circuit_laws.specs.Blocks.{Sum, negation, sum_of, top}
use Rattle.bit_circuit.proofs.GrowthLemmas.{choice_made}
use Rattle.bit_circuit.proofs.arithmetic.magnitude.Goals as goal

pub returns : goal.returns
returns c =
    let xs = c.args.xs.now in
    let k = c.args.circuit.now in
    let minus : Sum = negation xs k.next in
    let both = choice_made (sum_of minus) (top xs) c.top.result minus.word c.as_slice.result.now xs xs k c.negation.new.circuit c.each.new.circuit c.in_ok-word.word
    c.in_ok-minus.ensures.gates c.top.ensures (c.as_slice.ensures ∙ c.in_ok-minus.ensures.word) refl c.in_ok-word.ensures.word c.in_ok-word.ensures.gates in
    record { word = both.0; gates = both.1 }
