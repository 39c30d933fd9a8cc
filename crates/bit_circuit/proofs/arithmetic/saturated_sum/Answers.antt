use Rattle.std.proofs.Common.{length, replicate, ap, ◌∙◌}
use Rattle.circuit_laws.specs.Literals.{yes, no}
use Rattle.circuit_laws.specs.Blocks.{Sum, adder, sum_of}
use Rattle.bit_circuit.proofs.GrowthLemmas.{choice_made}
use Rattle.bit_circuit.proofs.arithmetic.saturated_sum.Goals as goal

pub returns : goal.returns
returns c =
    let xs = c.args.xs.now in
    let ys = c.args.ys.now in
    let k = c.args.circuit.now in
    let sum : Sum = adder xs ys no k.next in
    let plain = ap (λ l. adder xs ys l k.next) c.no.ensures in
    let both = choice_made (sum_of sum) sum.carry c.in_ok-sum.sum.carry (replicate (length xs) yes) c.as_slice.result.now sum.word c.as_slice-2.result.now k c.adder.new.circuit c.each.new.circuit c.in_ok-word.word
    (rw (← c.no.ensures) c.in_ok-sum.ensures.gates) (c.in_ok-sum.ensures.carry ∙ ap (λ s. s.carry) plain)
    (c.as_slice.ensures ∙ c.in_ok-greatest.ensures ∙ ap (replicate (length xs)) c.yes.ensures) (c.as_slice-2.ensures ∙ c.in_ok-sum.ensures.word ∙ ap (λ s. s.word) plain)
    c.in_ok-word.ensures.word c.in_ok-word.ensures.gates in
    record { word = both.0; gates = both.1 }
