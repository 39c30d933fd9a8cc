-- the instructions that are left, run from here, make the whole
use Rattle.std.proofs.Common.{◌≡◌, drop}
use Rattle.nir_mean.specs.Run.{run_instrs}
use Rattle.nir_mean.specs.Seen.{setting_of, shader_of, state_of}
use Rattle.nir_mean.specs.Table.{IsTable}
use Rattle.nir_mean.proofs.machine.Machine.run_instrs.Given as goal

abbrev pub invariant-loop-instr : goal.invariant-loop-instr
invariant-loop-instr l = record {
  rest : run_instrs (setting_of l.given) (drop l.instr-index l.instrs) (state_of l.self) ≡ run_instrs (setting_of l.given) l.instrs (state_of l.initial.self);
  table : IsTable (shader_of l.given) l.self.table.views;
}
