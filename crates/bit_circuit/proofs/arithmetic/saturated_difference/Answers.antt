use Rattle.std.proofs.Common.{length, replicate, ap, ◌∙◌}
use Rattle.circuit_laws.specs.Blocks.{Sum, subtracter, sum_of}
use Rattle.circuit_laws.specs.Opcodes.{none}
use Rattle.bit_circuit.proofs.GrowthLemmas.{choice_made}
use Rattle.bit_circuit.proofs.arithmetic.saturated_difference.Goals as goal

pub returns : goal.returns
returns c =
    let xs = c.args.xs.now in
    let ys = c.args.ys.now in
    let k = c.args.circuit.now in
    let sum : Sum = subtracter xs ys k.next in
    let both = choice_made (sum_of sum) sum.carry c.in_ok-difference.difference.carry sum.word c.as_slice.result.now (none (length xs)) c.as_slice-2.result.now k c.subtracter.new.circuit c.each.new.circuit c.in_ok-word.word
    c.in_ok-difference.ensures.gates c.in_ok-difference.ensures.carry (c.as_slice.ensures ∙ c.in_ok-difference.ensures.word)
    (c.as_slice-2.ensures ∙ c.in_ok-zero.ensures ∙ ap (replicate (length xs)) c.no.ensures) c.in_ok-word.ensures.word c.in_ok-word.ensures.gates in
    record { word = both.0; gates = both.1 }
