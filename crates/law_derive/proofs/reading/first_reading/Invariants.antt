use Rattle.std.proofs.Common.{◌≡◌, drop}
use Rattle.std.specs.List.{find}
use Rattle.law_derive.specs.Derivations.{matches_at}
use Rattle.law_derive.specs.Views.{law_says}
use Rattle.law_derive.proofs.reading.first_reading.Given as goal

-- the law matches at none of the sizes before the place
abbrev pub invariant-loop-width : goal.invariant-loop-width
invariant-loop-width l = record {
  so_far : find (matches_at (law_says l.law) l.rev l.term) (drop l.width-index l.sizes) ≡ find (matches_at (law_says l.law) l.rev l.term) l.sizes;
}
