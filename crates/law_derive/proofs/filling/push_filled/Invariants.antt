use Rattle.std.proofs.Common.{◌≡◌, ◌++◌, drop}
use Rattle.law_derive.specs.Matching.{filled}
use Rattle.law_derive.specs.Views.{filling_says}
use Rattle.law_derive.proofs.filling.push_filled.Given as goal

-- what was added, and the parts that are left
abbrev pub invariant-loop-part : goal.invariant-loop-part
invariant-loop-part l = record {
  so_far : l.out ++ filled (filling_says l.filling) (drop l.part-index l.side) ≡ l.fn.out ++ filled (filling_says l.filling) l.side;
}
