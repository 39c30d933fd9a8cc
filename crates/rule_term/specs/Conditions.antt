-- The conditions on variables: what each asks of a word of so many bits.
use Rattle.std.specs.Prelude.{◌-◌, ◌^◌, ◌/◌, ◌%◌, ℕ, Bool, true, ◌&&◌, nat_eq, nat_lt}
use Rattle.std.specs.List.{list_any, range_with_len}
use Rattle.rule_term.specs.declared.cond.Cond.{Cond}
use Rattle.rule_term.specs.declared.cond.Cond.TheVariants.{PosPow2, NegPow2, MultipleOf4, UpperHalfZero, LowerHalfZero, NotConst, UsedOnce}

-- conditions on uses and on consts ask nothing of a word
unfoldable pub cond_holds : Cond → ℕ → ℕ → Bool
cond_holds PosPow2 w x = list_any (λ k. nat_eq x (2 ^ k)) (range_with_len 0 (w - 1))
cond_holds NegPow2 w x = list_any (λ k. nat_eq x (2 ^ w - 2 ^ k)) (range_with_len 0 w)
cond_holds MultipleOf4 w x = nat_eq (x % 4) 0
cond_holds UpperHalfZero w x = nat_lt 1 w && nat_lt x (2 ^ (w / 2))
cond_holds LowerHalfZero w x = nat_lt 1 w && nat_eq (x % 2 ^ (w / 2)) 0
cond_holds NotConst w x = true
cond_holds UsedOnce w x = true
