-- what is noted now, with what comes, is what is noted in the end
use Rattle.std.proofs.Common.{◌≡◌, drop, map}
use Rattle.nir_ir.specs.Items.{InstrItem}
use Rattle.nir_index.specs.Index.{noted}
use Rattle.nir_index.proofs.index.note_instrs.Given as goal

abbrev pub invariant-loop-instr : goal.invariant-loop-instr
invariant-loop-instr l = noted (map InstrItem (drop l.instr-index l.instrs)) l.index ≡ noted (map InstrItem l.instrs) l.fn.index
