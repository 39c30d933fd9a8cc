use Rattle.std.proofs.Common.{◌≡◌, [], ◌∷◌, ◌++◌, length}
use Rattle.law_derive.specs.LawTable.{sized}
use Rattle.law_derive.specs.Views.{side_says}
use Rattle.law_derive.proofs.side.side_at.Given as goal

-- the nodes so far, and those of the parts that are left
abbrev pub invariant-parts : goal.invariant-parts
invariant-parts l = record {
  so_far : l.nodes ++ sized l.width (side_says l.left) l.sizes ≡ sized l.width (side_says l.side) (l.fn.value ∷ []);
}

abbrev pub decreases-parts : goal.decreases-parts
decreases-parts l = length l.left
