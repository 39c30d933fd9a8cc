use Rattle.std.proofs.Common.{◌∙◌, ap, ◌^◌, ◌<◌, nat_eq, arith}
use Rattle.std.specs.Int.{w64, trailing_zeros}
use Rattle.rule_term.proofs.PlaceLemmas.{only_place, no_place, place_of_power, shifted}
use Rattle.rule_term.proofs.cond.is_power.Goals as goal

pub returns-then-place-count : goal.returns-then-place-count
returns-then-place-count c =
    let x = c.args.value in
    let small : x < 2 ^ 64 = omega arith in
    ap (nat_eq x) (shifted (trailing_zeros w64 x) (omega arith))
    ∙ only_place (λ k. 2 ^ k) x c.args.count (trailing_zeros w64 x) (λ k below at. place_of_power x k small at) c.if-place-count.true

pub returns-else-place-count : goal.returns-else-place-count
returns-else-place-count c =
    let x = c.args.value in
    let small : x < 2 ^ 64 = omega arith in
    no_place (λ k. 2 ^ k) x c.args.count (trailing_zeros w64 x) (λ k below at. place_of_power x k small at) c.if-place-count.false
