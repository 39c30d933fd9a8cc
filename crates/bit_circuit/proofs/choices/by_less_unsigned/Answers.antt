use Rattle.std.proofs.Common.{refl, ap, ◌∙◌}
use Rattle.circuit_laws.specs.Blocks.{Block, less_unsigned, top}
use Rattle.bit_circuit.proofs.GrowthLemmas.{choice_made}
use Rattle.bit_circuit.proofs.choices.by_less_unsigned.Goals as goal

pub returns : goal.returns
returns c =
    let k = c.args.circuit.now in
    let test : Block = less_unsigned c.args.xs.now c.args.ys.now k.next in
    let both = choice_made test (top test.word) (top c.as_slice.result.now) c.args.first.now c.args.first.now c.args.second.now c.args.second.now
    k c.less_unsigned.new.circuit c.choice.new.circuit c.in_ok-word.word
    c.in_ok-test.ensures.gates (ap top (c.as_slice.ensures ∙ c.in_ok-test.ensures.word)) refl refl c.in_ok-word.ensures.word c.in_ok-word.ensures.gates in
    record { word = both.0; gates = both.1 }
