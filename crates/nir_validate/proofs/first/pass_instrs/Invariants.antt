-- the pass so far, and past what comes, is the whole
use Rattle.std.proofs.Common.{◌≡◌, drop}
use Rattle.nir_validate.specs.KindTable.{kinds_in}
use Rattle.nir_validate.specs.Passing.{passed_instrs}
use Rattle.nir_validate.proofs.first.pass_instrs.Given as goal

abbrev pub invariant-loop-instr : goal.invariant-loop-instr
invariant-loop-instr l = passed_instrs (kinds_in l.kinds) l.shader l.pass (drop l.instr-index l.instrs) ≡ passed_instrs (kinds_in l.kinds) l.shader l.fn.pass l.instrs
