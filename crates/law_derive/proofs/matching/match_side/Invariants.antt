use Rattle.std.proofs.Common.{◌≡◌, length}
use Rattle.law_derive.specs.Matching.{match_side}
use Rattle.law_derive.specs.Views.{filling_says}
use Rattle.law_derive.proofs.matching.match_side.Given as goal

-- whether the parts that are left match the nodes that are left
abbrev pub invariant-parts : goal.invariant-parts
invariant-parts l = record { so_far : match_side l.left l.rest (filling_says l.filling.items) ≡ match_side l.side l.nodes (filling_says l.fn.filling.items) }

abbrev pub decreases-parts : goal.decreases-parts
decreases-parts l = length l.left
