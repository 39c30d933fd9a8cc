use Rattle.std.proofs.Common.{◌∙◌, ap, subst, ◌^◌, ◌-◌, ◌<◌, ◌≤◌, ℕ, nat_eq, arith}
use Rattle.std.specs.Int.{w64, trailing_zeros}
use Rattle.nir_ops.specs.Width.{width_bits}
use Rattle.rule_term.proofs.PlaceLemmas.{only_place, no_place, place_of_negated, shifted, negated_at, width_at_most}
use Rattle.rule_term.proofs.cond.is_negated_power.Goals as goal

pub returns-then-place-bits : goal.returns-then-place-bits
returns-then-place-bits c =
    let x = c.args.value in
    let small : x < 2 ^ 64 = omega arith in
    let width = width_bits c.args.width in
    let place = trailing_zeros w64 x in
    let few = width_at_most c.args.width in
    let within : place < width = subst (λ (n : ℕ). place < n) c.bits.ensures c.if-place-bits.true in
    ap (λ n. nat_eq x (c.greatest.result - (n - 1))) (shifted place (omega arith))
    ∙ ap (λ n. nat_eq x (n - (2 ^ place - 1))) c.greatest.ensures
    ∙ ap (nat_eq x) (negated_at width place within)
    ∙ only_place (λ k. 2 ^ width - 2 ^ k) x width place (λ k below at. place_of_negated width x k small below at) within

pub returns-else-place-bits : goal.returns-else-place-bits
returns-else-place-bits c =
    let x = c.args.value in
    let small : x < 2 ^ 64 = omega arith in
    let width = width_bits c.args.width in
    no_place (λ k. 2 ^ width - 2 ^ k) x width (trailing_zeros w64 x) (λ k below at. place_of_negated width x k small below at) (subst (λ (n : ℕ). n ≤ trailing_zeros w64 x) c.bits.ensures c.if-place-bits.false)
