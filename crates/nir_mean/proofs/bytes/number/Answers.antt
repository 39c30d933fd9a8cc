use Rattle.std.proofs.Common.{◌-◌, ◌<◌, ◌≤◌, length, arith, slice_index_or}
use Rattle.nir_mean.proofs.ByteLemmas.{number_less, number_next, number_room}
use Rattle.nir_mean.proofs.bytes.number.Goals as goal

pub overflow_mul-number : goal.overflow_mul-number
overflow_mul-number c =
    let few : length c.args.bytes.now - c.loop-at.at ≤ 7 = omega arith in
    let room = number_room c.loop-at.number (length c.args.bytes.now - c.loop-at.at) c.loop-at.invariant.small few in
    omega arith

pub overflow_add-number : goal.overflow_add-number
overflow_add-number c =
    let few : length c.args.bytes.now - c.loop-at.at ≤ 7 = omega arith in
    let room = number_room c.loop-at.number (length c.args.bytes.now - c.loop-at.at) c.loop-at.invariant.small few in
    let low : slice_index_or c.args.bytes.now (c.loop-at.at - 1) 0 < 256 = omega (arith, c.type_inv.bytes (c.loop-at.at - 1)) in
    omega arith

pub loop-at-preserved : goal.loop-at-preserved
loop-at-preserved c = record {
  value = number_next c.args.bytes.now c.loop-at.at c.loop-at.number c.loop-at-test.true c.loop-at.invariant.within c.loop-at.invariant.value;
  small = number_less c.args.bytes.now c.loop-at.at c.loop-at.number _ c.loop-at-test.true c.loop-at.invariant.within (omega (arith, c.type_inv.bytes (c.loop-at.at - 1))) c.loop-at.invariant.small;
  within = omega arith;
}
