-- the table so far, told what comes, is the one told all
use Rattle.std.proofs.Common.{◌≡◌, drop, map}
use Rattle.nir_ir.specs.Items.{InstrItem}
use Rattle.nir_validate.specs.KindTable.{told_all}
use Rattle.nir_validate.proofs.kinds.tell_instrs.Given as goal

abbrev pub invariant-loop-instr : goal.invariant-loop-instr
invariant-loop-instr l = told_all (map InstrItem (drop l.instr-index l.instrs)) l.kinds ≡ told_all (map InstrItem l.instrs) l.fn.kinds
