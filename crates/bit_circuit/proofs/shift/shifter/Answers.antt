use Rattle.std.proofs.Common.{◌≡◌, ◌<◌, ◌^◌, length, arith, ap, ◌∙◌}
use Rattle.circuit_laws.specs.Blocks.{choice, shifter}
use Rattle.bit_circuit.specs.Growth.{grown}
use Rattle.bit_circuit.specs.Moves.{moved_by}
use Rattle.bit_circuit.proofs.BlockLemmas.{shifter_turn, shifter_end, one_raised}
use Rattle.bit_circuit.proofs.shift.shifter.Goals as goal

pub loop-at-preserved : goal.loop-at-preserved
loop-at-preserved c =
    let how = moved_by c.args.how.now in
    let ks = c.args.count.now in
    let at = c.loop-at.at in
    let k = c.loop-at.circuit in
    let bit = c.index-count-at.result in
    let word = c.loop-at.word in
    let less : at < length ks = c.loop-at-test.true in
    let far : c.in_ok-far.far ≡ how (2 ^ at) word = c.in_ok-far.ensures ∙ ap (λ m. how m c.as_slice.result.now) (one_raised at (omega arith)) ∙ ap (how (2 ^ at)) c.as_slice.ensures in
    let chosen : c.in_ok-chosen.chosen ≡ (choice bit c.in_ok-far.far word k.next).word = rw (← c.as_slice-in-loop-at.ensures, ← c.as_slice-in-loop-at-2.ensures) c.in_ok-chosen.ensures.word in
    let gates : c.each.new.circuit ≡ grown k (choice bit c.in_ok-far.far word k.next).gates = rw (← c.as_slice-in-loop-at.ensures, ← c.as_slice-in-loop-at-2.ensures) c.in_ok-chosen.ensures.gates in
    shifter_turn how word c.in_ok-chosen.chosen c.in_ok-far.far ks at bit k c.each.new.circuit c.args.circuit.now (shifter how c.args.xs.now ks 0 c.args.circuit.now.next)
    less c.index-count-at.is c.loop-at.invariant far chosen gates

pub returns-clause-word : goal.returns-clause-word
returns-clause-word c =
    (shifter_end (moved_by c.args.how.now) c.loop-at.word c.args.count.now c.loop-at.at c.loop-at.circuit c.args.circuit.now
    (shifter (moved_by c.args.how.now) c.args.xs.now c.args.count.now 0 c.args.circuit.now.next) c.loop-at-test.false c.loop-at.invariant).0

pub returns-clause-gates : goal.returns-clause-gates
returns-clause-gates c =
    (shifter_end (moved_by c.args.how.now) c.loop-at.word c.args.count.now c.loop-at.at c.loop-at.circuit c.args.circuit.now
    (shifter (moved_by c.args.how.now) c.args.xs.now c.args.count.now 0 c.args.circuit.now.next) c.loop-at-test.false c.loop-at.invariant).1
