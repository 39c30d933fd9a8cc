-- the lists before the place are longer
use Rattle.std.proofs.Common.{◌≡◌, ◌++◌, drop}
use Rattle.std.specs.List.{flat_map}
use Rattle.size_infer.specs.Grown.{all_widths_of}
use Rattle.size_infer.specs.Options.{grown_in}
use Rattle.size_infer.proofs.grow.longer_lists.Given as goal

abbrev pub invariant-loop-list : goal.invariant-loop-list
invariant-loop-list l =
    all_widths_of l.next ++ flat_map (grown_in l.classes l.node) (all_widths_of (drop l.list-index l.lists))
    ≡ flat_map (grown_in l.classes l.node) (all_widths_of l.lists)
