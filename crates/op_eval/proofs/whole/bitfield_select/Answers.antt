use Rattle.std.proofs.Common.{◌-◌, ◌^◌, ◌<◌, sym, arith}
use Rattle.std.proofs.lemmas.Nat.{or_lt}
use Rattle.std.specs.Int.Bits.{and_lt}
use Rattle.op_eval.specs.Word.{picked}
use Rattle.op_eval.proofs.WordLemmas.{residue_below}
use Rattle.op_eval.proofs.whole.bitfield_select.Goals as goal

pub returns-in-W64 : goal.returns-in-W64
unfolding picked
returns-in-W64 c =
    let x : c.args.x < 2 ^ 64 = c.ranges.x.fits in
    let y : c.args.y < 2 ^ 64 = c.ranges.y.fits in
    let z : c.args.z < 2 ^ 64 = c.ranges.z.fits in
    let n : 2 ^ 64 - 1 - c.args.x < 2 ^ 64 = omega arith in
    rw c.in-W64.is (sym (residue_below 64 _ (or_lt 64 _ _ (and_lt 64 _ _ x y) (and_lt 64 _ _ n z))))
