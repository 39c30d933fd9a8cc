use Rattle.std.proofs.Common.{◌≡◌, length}
use Rattle.circuit_laws.specs.Blocks.{product}
use Rattle.circuit_laws.specs.Opcodes.{none}
use Rattle.bit_circuit.specs.Growth.{grown}
use Rattle.bit_circuit.specs.Partial.{with_part}
use Rattle.bit_circuit.proofs.BlockLemmas.{product_turn, product_end}
use Rattle.bit_circuit.proofs.product.product.Goals as goal

pub loop-at-preserved : goal.loop-at-preserved
loop-at-preserved c =
    let xs = c.args.xs.now in
    let ys = c.args.ys.now in
    let at = c.loop-at.at in
    let k = c.loop-at.circuit in
    let y = c.index-ys-at.result in
    let word : c.in_ok-more.more ≡ (with_part xs y at c.loop-at.sum k.next).word = rw (← c.as_slice.ensures) c.in_ok-more.ensures.word in
    let gates : c.with_part.new.circuit ≡ grown k (with_part xs y at c.loop-at.sum k.next).gates = rw (← c.as_slice.ensures) c.in_ok-more.ensures.gates in
    product_turn xs ys c.loop-at.sum c.in_ok-more.more at y k c.with_part.new.circuit c.args.circuit.now (product xs ys 0 (none (length xs)) c.args.circuit.now.next)
    c.loop-at-test.true c.index-ys-at.is c.loop-at.invariant word gates

pub returns-clause-word : goal.returns-clause-word
returns-clause-word c =
    (product_end c.args.xs.now c.args.ys.now c.loop-at.sum c.loop-at.at c.loop-at.circuit c.args.circuit.now
    (product c.args.xs.now c.args.ys.now 0 (none (length c.args.xs.now)) c.args.circuit.now.next) c.loop-at-test.false c.loop-at.invariant).0

pub returns-clause-gates : goal.returns-clause-gates
returns-clause-gates c =
    (product_end c.args.xs.now c.args.ys.now c.loop-at.sum c.loop-at.at c.loop-at.circuit c.args.circuit.now
    (product c.args.xs.now c.args.ys.now 0 (none (length c.args.xs.now)) c.args.circuit.now.next) c.loop-at-test.false c.loop-at.invariant).1
