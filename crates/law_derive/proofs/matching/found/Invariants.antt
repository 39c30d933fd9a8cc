use Rattle.std.proofs.Common.{◌≡◌, drop}
use Rattle.law_derive.specs.Matching.{found}
use Rattle.law_derive.specs.Views.{filling_says}
use Rattle.law_derive.proofs.matching.found.Given as goal

-- what the letter stands for is among those that are left
abbrev pub invariant-loop-one : goal.invariant-loop-one
invariant-loop-one l = record { so_far : found l.letter (filling_says (drop l.one-index l.filling)) ≡ found l.letter (filling_says l.filling) }
