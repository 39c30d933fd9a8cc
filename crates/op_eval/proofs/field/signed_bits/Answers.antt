use Rattle.std.proofs.Common.{◌≡◌, ◌+◌, ◌-◌, ◌*◌, ◌%◌, ◌^◌, ◌<◌, ◌≤◌, ◌∙◌, ap, subst, arith}
use Rattle.std.proofs.Math.Pow.{pow_mono}
use Rattle.op_eval.proofs.WordLemmas.{signed_low, signed_high}
use Rattle.op_eval.proofs.FieldLemmas.{one_raised}
use Rattle.op_eval.proofs.field.signed_bits.Goals as goal

pub returns-then-word-count : goal.returns-then-word-count
returns-then-word-count c =
    let one : 1 * 2 ^ (c.args.count - 1) % 2 ^ 64 ≡ 2 ^ (c.args.count - 1) = one_raised (c.args.count - 1) (omega arith) in
    signed_low c.args.count c.args.word (subst (λ n. c.args.word < n) one c.if-word-count.true) (pow_mono {j = 32} (omega arith))

pub returns-else-word-count : goal.returns-else-word-count
returns-else-word-count c =
    let one : 1 * 2 ^ (c.args.count - 1) % 2 ^ 64 ≡ 2 ^ (c.args.count - 1) = one_raised (c.args.count - 1) (omega arith) in
    let top : 1 * 2 ^ c.args.count % 2 ^ 64 ≡ 2 ^ c.args.count = one_raised c.args.count (omega arith) in
    ap (λ n. c.args.word + 2 ^ 32 - n) top ∙ signed_high c.args.count c.args.word (subst (λ n. n ≤ c.args.word) one c.if-word-count.false) c.requires.word (pow_mono {j = 32} (omega arith))
