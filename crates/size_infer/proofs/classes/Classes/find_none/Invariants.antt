-- each node before the place can have a size
use Rattle.size_infer.specs.Options.{EachHas}
use Rattle.size_infer.proofs.classes.Classes.find_none.Given as goal

abbrev pub invariant-loop-node : goal.invariant-loop-node
invariant-loop-node l = EachHas l.self l.node
