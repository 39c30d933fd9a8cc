use Rattle.std.proofs.Common.{◌<◌, ◌≤◌, ◌+◌, length, drop, min, arith}
use Rattle.circuit_laws.specs.Blocks.{pairwise, each}
use Rattle.bit_circuit.specs.Pairs.{gate_by}
use Rattle.bit_circuit.proofs.GrowthLemmas.{row_turn, row_end}
use Rattle.bit_circuit.proofs.BlockLemmas.{pairwise_at, pairwise_past}
use Rattle.bit_circuit.proofs.row.each.Goals as goal

pub loop-at-preserved : goal.loop-at-preserved
loop-at-preserved c =
    let f = gate_by c.args.how.now in
    let xs = c.args.xs.now in
    let ys = c.args.ys.now in
    let at = c.loop-at.at in
    let x = c.index-xs-at.result in
    let y = c.index-ys-at.result in
    let first : at < length xs = omega arith in
    let second : at < length ys = omega arith in
    row_turn (pairwise f (drop at xs) (drop at ys)) (pairwise f (drop (at + 1) xs) (drop (at + 1) ys)) (f x y) c.loop-at.circuit c.pair.new.circuit c.loop-at.word c.push.new.self c.in_ok-made.made
    c.args.circuit.now (each f xs ys c.args.circuit.now.next) c.loop-at.invariant
    (pairwise_at f xs ys at x y first second c.index-xs-at.is c.index-ys-at.is) c.in_ok-made.ensures.made c.in_ok-made.ensures.grown c.in_ok-push.ensures.ok

pub returns-clause-word : goal.returns-clause-word
returns-clause-word c =
    let f = gate_by c.args.how.now in
    let end : min (length c.args.xs.now) (length c.args.ys.now) ≤ c.loop-at.at = omega arith in
    (row_end (pairwise f (drop c.loop-at.at c.args.xs.now) (drop c.loop-at.at c.args.ys.now)) c.loop-at.circuit c.loop-at.word c.args.circuit.now
    (each f c.args.xs.now c.args.ys.now c.args.circuit.now.next) c.loop-at.invariant (pairwise_past f c.args.xs.now c.args.ys.now c.loop-at.at end)).0

pub returns-clause-gates : goal.returns-clause-gates
returns-clause-gates c =
    let f = gate_by c.args.how.now in
    let end : min (length c.args.xs.now) (length c.args.ys.now) ≤ c.loop-at.at = omega arith in
    (row_end (pairwise f (drop c.loop-at.at c.args.xs.now) (drop c.loop-at.at c.args.ys.now)) c.loop-at.circuit c.loop-at.word c.args.circuit.now
    (each f c.args.xs.now c.args.ys.now c.args.circuit.now.next) c.loop-at.invariant (pairwise_past f c.args.xs.now c.args.ys.now c.loop-at.at end)).1
