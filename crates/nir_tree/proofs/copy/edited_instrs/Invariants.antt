-- the instructions so far, and then the edit of those that are left, are the edit of all
use Rattle.std.proofs.Common.{◌≡◌, ◌++◌, drop}
use Rattle.nir_tree.specs.Edited.{edited_instrs}
use Rattle.nir_tree.proofs.copy.edited_instrs.Given as goal

abbrev pub invariant-loop-instr : goal.invariant-loop-instr
invariant-loop-instr l = l.copy ++ edited_instrs l.edit (drop l.instr-index l.instrs) ≡ edited_instrs l.edit l.instrs
