-- what is written and what is left make the whole list
use Rattle.std.proofs.Common.{◌≡◌, ◌++◌, drop, map, codes, decimal}
use Rattle.std.specs.List.{flat_map}
use Rattle.text_bytes.specs.Lists.{numbers_text}
use Rattle.text_bytes.proofs.push_numbers.Given as goal

abbrev pub invariant-loop-number : goal.invariant-loop-number
invariant-loop-number l = l.out.items ++ flat_map (λ next. codes ", " ++ next) (map decimal (drop l.number-index l.rest)) ≡ l.fn.out.items ++ numbers_text l.numbers
