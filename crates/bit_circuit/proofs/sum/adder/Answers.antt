use Rattle.std.proofs.Common.{◌<◌, ◌≤◌, length, min, arith, sym, ap, ◌∙◌}
use Rattle.circuit_laws.specs.Blocks.{adder, sum_of}
use Rattle.bit_circuit.proofs.BlockLemmas.{adder_at, adder_turn, adder_carry, adder_end, adder_past}
use Rattle.bit_circuit.proofs.sum.adder.Goals as goal

pub loop-at-preserved : goal.loop-at-preserved
loop-at-preserved c =
    let xs = c.args.xs.now in
    let ys = c.args.ys.now in
    let at = c.loop-at.at in
    let k = c.loop-at.circuit in
    let x = c.index-xs-at.result in
    let y = c.index-ys-at.result in
    let first : at < length xs = omega arith in
    let second : at < length ys = omega arith in
    let here = adder_at xs ys at x y c.loop-at.carried k.next first second c.index-xs-at.is c.index-ys-at.is in
    let differ = c.in_ok-differ in
    let bit = c.in_ok-bit in
    let carried = c.in_ok-carried in
    record {
      left = adder_turn xs ys at x y c.loop-at.carried carried.carried differ.differ bit.bit k c.xor.new.self c.xor-in-loop-at.new.self c.mux.new.self c.args.circuit.now
          c.loop-at.word c.push.new.self (sum_of (adder xs ys c.args.carry c.args.circuit.now.next)) c.loop-at.invariant.left here
          differ.ensures.made differ.ensures.grown bit.ensures.made bit.ensures.grown carried.ensures.made carried.ensures.grown c.in_ok-push.ensures.ok;
      carry = adder_carry xs ys at x y c.loop-at.carried carried.carried differ.differ (adder xs ys c.args.carry c.args.circuit.now.next).carry
          k c.xor.new.self c.xor-in-loop-at.new.self c.mux.new.self c.loop-at.invariant.carry here
          differ.ensures.grown bit.ensures.grown carried.ensures.made carried.ensures.grown;
    }

pub returns-clause-word : goal.returns-clause-word
returns-clause-word c =
    let end : min (length c.args.xs.now) (length c.args.ys.now) ≤ c.loop-at.at = omega arith in
    (adder_end c.args.xs.now c.args.ys.now c.loop-at.at c.loop-at.carried c.loop-at.circuit c.args.circuit.now c.loop-at.word
    (sum_of (adder c.args.xs.now c.args.ys.now c.args.carry c.args.circuit.now.next)) end c.loop-at.invariant.left).0

pub returns-clause-carry : goal.returns-clause-carry
returns-clause-carry c =
    let end : min (length c.args.xs.now) (length c.args.ys.now) ≤ c.loop-at.at = omega arith in
    sym (ap (λ s. s.carry) (adder_past c.args.xs.now c.args.ys.now c.loop-at.at c.loop-at.carried c.loop-at.circuit.next end)) ∙ c.loop-at.invariant.carry

pub returns-clause-gates : goal.returns-clause-gates
returns-clause-gates c =
    let end : min (length c.args.xs.now) (length c.args.ys.now) ≤ c.loop-at.at = omega arith in
    (adder_end c.args.xs.now c.args.ys.now c.loop-at.at c.loop-at.carried c.loop-at.circuit c.args.circuit.now c.loop-at.word
    (sum_of (adder c.args.xs.now c.args.ys.now c.args.carry c.args.circuit.now.next)) end c.loop-at.invariant.left).1
