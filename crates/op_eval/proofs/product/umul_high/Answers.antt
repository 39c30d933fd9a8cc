use Rattle.std.proofs.Common.{◌*◌, ◌^◌, ◌<◌, ◌∙◌, rules, add-zero}
use Rattle.op_eval.proofs.ProductLemmas.{high_is}
use Rattle.op_eval.proofs.product.umul_high.Goals as goal

pub returns-in-W8 : goal.returns-in-W8
returns-in-W8 c =
    let low : c.carrying_mul.result.0 < 2 ^ 8 = search rules in
    let high : c.carrying_mul.result.1 < 2 ^ 8 = search rules in
    rw c.in-W8.is (high_is 8 c.carrying_mul.result.0 c.carrying_mul.result.1 (c.args.x * c.args.y) (c.carrying_mul.ensures ∙ add-zero (c.args.x * c.args.y)) low high)

pub returns-in-W16 : goal.returns-in-W16
returns-in-W16 c =
    let low : c.carrying_mul-in-W16.result.0 < 2 ^ 16 = search rules in
    let high : c.carrying_mul-in-W16.result.1 < 2 ^ 16 = search rules in
    rw c.in-W16.is (high_is 16 c.carrying_mul-in-W16.result.0 c.carrying_mul-in-W16.result.1 (c.args.x * c.args.y) (c.carrying_mul-in-W16.ensures ∙ add-zero (c.args.x * c.args.y)) low high)

pub returns-in-W32 : goal.returns-in-W32
returns-in-W32 c =
    let low : c.carrying_mul-in-W32.result.0 < 2 ^ 32 = search rules in
    let high : c.carrying_mul-in-W32.result.1 < 2 ^ 32 = search rules in
    rw c.in-W32.is (high_is 32 c.carrying_mul-in-W32.result.0 c.carrying_mul-in-W32.result.1 (c.args.x * c.args.y) (c.carrying_mul-in-W32.ensures ∙ add-zero (c.args.x * c.args.y)) low high)

pub returns-in-W64 : goal.returns-in-W64
returns-in-W64 c =
    let low : c.carrying_mul-in-W64.result.0 < 2 ^ 64 = search rules in
    let high : c.carrying_mul-in-W64.result.1 < 2 ^ 64 = search rules in
    rw c.in-W64.is (high_is 64 c.carrying_mul-in-W64.result.0 c.carrying_mul-in-W64.result.1 (c.args.x * c.args.y) (c.carrying_mul-in-W64.ensures ∙ add-zero (c.args.x * c.args.y)) low high)
