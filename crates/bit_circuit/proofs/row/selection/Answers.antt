use Rattle.std.proofs.Common.{◌<◌, ◌≤◌, ◌+◌, length, drop, min, arith}
use Rattle.circuit_laws.specs.Gates.{Mux}
use Rattle.circuit_laws.specs.Blocks.{chosen, selection}
use Rattle.bit_circuit.proofs.GrowthLemmas.{row_turn, row_end}
use Rattle.bit_circuit.proofs.BlockLemmas.{chosen_at, chosen_past}
use Rattle.bit_circuit.proofs.row.selection.Goals as goal

pub loop-at-preserved : goal.loop-at-preserved
loop-at-preserved c =
    let ms = c.args.mask.now in
    let xs = c.args.xs.now in
    let ys = c.args.ys.now in
    let at = c.loop-at.at in
    let m = c.index-mask-at.result in
    let x = c.index-xs-at.result in
    let y = c.index-ys-at.result in
    let first : at < length ms = omega arith in
    let second : at < length xs = omega arith in
    let third : at < length ys = omega arith in
    row_turn (chosen (drop at ms) (drop at xs) (drop at ys)) (chosen (drop (at + 1) ms) (drop (at + 1) xs) (drop (at + 1) ys)) (Mux m x y)
    c.loop-at.circuit c.mux.new.self c.loop-at.word c.push.new.self c.in_ok-made.made c.args.circuit.now (selection ms xs ys c.args.circuit.now.next) c.loop-at.invariant
    (chosen_at ms xs ys at m x y first second third c.index-mask-at.is c.index-xs-at.is c.index-ys-at.is) c.in_ok-made.ensures.made c.in_ok-made.ensures.grown c.in_ok-push.ensures.ok

pub returns-clause-word : goal.returns-clause-word
returns-clause-word c =
    let ms = c.args.mask.now in
    let xs = c.args.xs.now in
    let ys = c.args.ys.now in
    let at = c.loop-at.at in
    let end : min (min (length ms) (length xs)) (length ys) ≤ at = omega arith in
    (row_end (chosen (drop at ms) (drop at xs) (drop at ys)) c.loop-at.circuit c.loop-at.word c.args.circuit.now
    (selection ms xs ys c.args.circuit.now.next) c.loop-at.invariant (chosen_past ms xs ys at end)).0

pub returns-clause-gates : goal.returns-clause-gates
returns-clause-gates c =
    let ms = c.args.mask.now in
    let xs = c.args.xs.now in
    let ys = c.args.ys.now in
    let at = c.loop-at.at in
    let end : min (min (length ms) (length xs)) (length ys) ≤ at = omega arith in
    (row_end (chosen (drop at ms) (drop at xs) (drop at ys)) c.loop-at.circuit c.loop-at.word c.args.circuit.now
    (selection ms xs ys c.args.circuit.now.next) c.loop-at.invariant (chosen_past ms xs ys at end)).1
