use Rattle.std.proofs.Common.{◌≤◌, ap, ◌∙◌, arith, length, Some, None}
use Rattle.std.specs.List.{sum}
use Rattle.rule_check.proofs.Trials.{free_bits-le, trial-many, trial-few}
use Rattle.rule_check.proofs.cases.try_cases.Goals as goal

pub total-requires : goal.total-requires
total-requires c =
    let least = free_bits-le c.args.rule.now c.args.typing.now.widths c.as_slice.result.now (c.as_slice.ensures.value ∙ c.bits_of_vars-bits.ensures) in
    let few : length c.as_slice.result.now ≤ 16 = c.as_slice.ensures.fits in
    omega arith

pub returns-then-total-gt-MOST_BITS : goal.returns-then-total-gt-MOST_BITS
returns-then-total-gt-MOST_BITS c =
    trial-many c.args.rule.now c.args.typing.now.widths c.total.result (c.total.ensures ∙ ap sum (c.as_slice.ensures.value ∙ c.bits_of_vars-bits.ensures)) c.if-total-gt-MOST_BITS.true

pub returns-in_ok-values-in-Some : goal.returns-in_ok-values-in-Some
returns-in_ok-values-in-Some c =
    trial-few c.args.rule.now c.args.typing.now.widths c.total.result (Some c.in_ok-values-in-Some.values)
    (c.total.ensures ∙ ap sum (c.as_slice.ensures.value ∙ c.bits_of_vars-bits.ensures)) c.if-total-gt-MOST_BITS.false
    (ap Some (c.in_ok-values-in-Some.ensures ∙ c.as_slice-in-Some.ensures.value) ∙ c.in-Some.ensures)

pub returns-in-None : goal.returns-in-None
returns-in-None c =
    trial-few c.args.rule.now c.args.typing.now.widths c.total.result None
    (c.total.ensures ∙ ap sum (c.as_slice.ensures.value ∙ c.bits_of_vars-bits.ensures)) c.if-total-gt-MOST_BITS.false c.in-None.ensures
