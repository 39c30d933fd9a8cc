use Rattle.std.proofs.Common.{◌≡◌, length}
use Rattle.law_derive.specs.Derivations.{are_filled}
use Rattle.law_derive.specs.Views.{filling_says}
use Rattle.law_derive.proofs.filling.are_filled.Given as goal

-- whether the letters of the parts that are left stand for something
abbrev pub invariant-parts : goal.invariant-parts
invariant-parts l = record { so_far : are_filled (filling_says l.filling) l.left ≡ are_filled (filling_says l.filling) l.side }

abbrev pub decreases-parts : goal.decreases-parts
decreases-parts l = length l.left
