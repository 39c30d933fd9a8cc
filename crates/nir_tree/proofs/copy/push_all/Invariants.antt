-- the instructions so far, and then those that are left, are all
use Rattle.std.proofs.Common.{◌≡◌, ◌++◌, drop}
use Rattle.nir_tree.proofs.copy.push_all.Given as goal

abbrev pub invariant-loop-instr : goal.invariant-loop-instr
invariant-loop-instr l = l.copy ++ drop l.instr-index l.news ≡ l.initial.copy ++ l.news
