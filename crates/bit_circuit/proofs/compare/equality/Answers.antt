use Rattle.std.proofs.Common.{◌<◌, ◌≤◌, [], ◌∷◌, length, drop, min, arith, ◌∙◌}
use Rattle.circuit_laws.specs.Literals.{yes}
use Rattle.circuit_laws.specs.Blocks.{equality}
use Rattle.bit_circuit.proofs.GrowthLemmas.{left_end}
use Rattle.bit_circuit.proofs.BlockLemmas.{equality_at, equality_turn, equality_past}
use Rattle.bit_circuit.proofs.compare.equality.Goals as goal

pub loop-at-preserved : goal.loop-at-preserved
loop-at-preserved c =
    let xs = c.args.xs.now in
    let ys = c.args.ys.now in
    let at = c.loop-at.at in
    let k = c.loop-at.circuit in
    let x = c.index-xs-at.result in
    let y = c.index-ys-at.result in
    let first : at < length xs = omega arith in
    let second : at < length ys = omega arith in
    equality_turn xs ys at x y c.loop-at.equal c.in_ok-equal.equal c.in_ok-differ.differ c.negated.result k c.xor.new.self c.and.new.self c.args.circuit.now
    (equality xs ys yes c.args.circuit.now.next) c.loop-at.invariant (equality_at xs ys at x y c.loop-at.equal k.next first second c.index-xs-at.is c.index-ys-at.is)
    c.in_ok-differ.ensures.made c.negated.ensures c.in_ok-differ.ensures.grown c.in_ok-equal.ensures.made c.in_ok-equal.ensures.grown

pub returns-clause-word : goal.returns-clause-word
returns-clause-word c =
    let end : min (length c.args.xs.now) (length c.args.ys.now) ≤ c.loop-at.at = omega arith in
    c.in_ok-word.ensures
    ∙ (left_end c.loop-at.circuit [] (c.loop-at.equal ∷ []) (equality (drop c.loop-at.at c.args.xs.now) (drop c.loop-at.at c.args.ys.now) c.loop-at.equal c.loop-at.circuit.next) c.args.circuit.now
    (equality c.args.xs.now c.args.ys.now yes c.args.circuit.now.next) c.loop-at.invariant (equality_past c.args.xs.now c.args.ys.now c.loop-at.at c.loop-at.equal c.loop-at.circuit.next end)).0

pub returns-clause-gates : goal.returns-clause-gates
returns-clause-gates c =
    let end : min (length c.args.xs.now) (length c.args.ys.now) ≤ c.loop-at.at = omega arith in
    (left_end c.loop-at.circuit [] (c.loop-at.equal ∷ []) (equality (drop c.loop-at.at c.args.xs.now) (drop c.loop-at.at c.args.ys.now) c.loop-at.equal c.loop-at.circuit.next) c.args.circuit.now
    (equality c.args.xs.now c.args.ys.now yes c.args.circuit.now.next) c.loop-at.invariant (equality_past c.args.xs.now c.args.ys.now c.loop-at.at c.loop-at.equal c.loop-at.circuit.next end)).1
