-- the instructions that are left, told, make the whole
use Rattle.std.proofs.Common.{map, drop}
use Rattle.std.specs.List.{flat_map}
use Rattle.nir_ir.specs.Items.{InstrItem}
use Rattle.nir_mean.specs.Declares.{declares}
use Rattle.nir_mean.proofs.DeclareLemmas.{IsTold}
use Rattle.nir_mean.proofs.start.declare_instrs.Given as goal

abbrev pub invariant-loop-instr : goal.invariant-loop-instr
invariant-loop-instr l = IsTold l.initial.table.views (flat_map declares (map InstrItem l.instrs)) l.table.views (flat_map declares (map InstrItem (drop l.instr-index l.instrs)))
