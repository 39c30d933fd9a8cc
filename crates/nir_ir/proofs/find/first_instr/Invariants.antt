-- none before the place defines the value
use Rattle.std.proofs.Common.{◌≡◌, drop}
use Rattle.std.specs.List.{find}
use Rattle.nir_ir.specs.Definitions.{is_target}
use Rattle.nir_ir.proofs.find.first_instr.Given as goal

abbrev pub invariant-loop-instr : goal.invariant-loop-instr
invariant-loop-instr l = find (is_target l.value) (drop l.instr-index l.instrs) ≡ find (is_target l.value) l.instrs
