-- no tuple before this number makes a difference
use Rattle.std.proofs.Common.{◌≡◌, ◌-◌, ◌^◌, map}
use Rattle.std.specs.List.{find, range_with_len, sum}
use Rattle.rule_check.specs.Cases.{differs_at, tuple, first_difference}
use Rattle.rule_check.proofs.cases.first_difference.Given as goal

abbrev pub invariant-loop-number : goal.invariant-loop-number
invariant-loop-number l =
    find (differs_at l.rule l.typing.widths) (map (tuple l.bits) (range_with_len l.number (2 ^ sum l.bits - l.number))) ≡ first_difference l.rule l.typing.widths
