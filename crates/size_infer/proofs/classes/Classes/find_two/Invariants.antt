-- no node before the place can have two sizes
use Rattle.size_infer.specs.Options.{NoneHasTwo}
use Rattle.size_infer.proofs.classes.Classes.find_two.Given as goal

abbrev pub invariant-loop-node : goal.invariant-loop-node
invariant-loop-node l = NoneHasTwo l.self l.searched l.node
