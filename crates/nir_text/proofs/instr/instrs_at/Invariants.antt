use Rattle.std.proofs.Common.{◌≡◌, ◌-◌}
use Rattle.nir_text.specs.Instrs.{instrs_at}
use Rattle.nir_text.specs.Table.{naming}
use Rattle.nir_text.specs.View.{point}
use Rattle.nir_text.proofs.Front.{with_front}
use Rattle.nir_text.proofs.instr.instrs_at.Given as goal

abbrev pub invariant-instrs : goal.invariant-instrs
invariant-instrs l = with_front l.instrs (instrs_at (naming l.names) (l.fuel - l._turn) (point l.at)) ≡ instrs_at (naming l.names) l.fuel (point l.fn.p)
