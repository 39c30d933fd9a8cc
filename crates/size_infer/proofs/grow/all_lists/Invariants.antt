-- the lists are those of the nodes before the place
use Rattle.std.proofs.Common.{◌≡◌}
use Rattle.size_infer.specs.Grown.{all_widths_of}
use Rattle.size_infer.specs.Options.{product_in}
use Rattle.size_infer.proofs.grow.all_lists.Given as goal

abbrev pub invariant-loop-node : goal.invariant-loop-node
invariant-loop-node l = all_widths_of l.lists ≡ product_in l.classes l.node
