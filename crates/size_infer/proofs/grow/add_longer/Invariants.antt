-- the list is added with those of the sizes before the place that fit
use Rattle.std.proofs.Common.{◌≡◌, ◌++◌, drop, filter, map}
use Rattle.size_laws.specs.Places.{longer}
use Rattle.size_infer.specs.Grown.{all_widths_of}
use Rattle.size_infer.specs.Options.{fits_in}
use Rattle.size_infer.proofs.grow.add_longer.Given as goal

abbrev pub invariant-loop-width : goal.invariant-loop-width
invariant-loop-width l =
    all_widths_of l.next ++ map (longer l.list) (filter (fits_in l.classes l.list l.node) (drop l.width-index l.widths))
    ≡ all_widths_of l.fn.next ++ map (longer l.list) (filter (fits_in l.classes l.list l.node) l.widths)
