use Rattle.std.proofs.Common.{◌≡◌, drop, map}
use Rattle.law_derive.specs.Readings.{bound_says, fill_all}
use Rattle.law_derive.specs.Views.{filling_says, law_says}
use Rattle.law_derive.proofs.binding.fill_all.Given as goal

-- what the letters stand for with those that are left
abbrev pub invariant-loop-bound : goal.invariant-loop-bound
invariant-loop-bound l = record {
  so_far : fill_all (law_says l.law) (map bound_says (drop l.bound-index l.bounds)) (filling_says l.filling.items)
      ≡ fill_all (law_says l.law) (map bound_says l.bounds) (filling_says l.fn.filling.items);
}
