use Rattle.std.proofs.Common.{◌≡◌, ◌-◌}
use Rattle.nir_text.specs.Instrs.{phis_at}
use Rattle.nir_text.specs.Table.{naming}
use Rattle.nir_text.specs.View.{point}
use Rattle.nir_text.proofs.Front.{with_front}
use Rattle.nir_text.proofs.phi.phis_at.Given as goal

abbrev pub invariant-phis : goal.invariant-phis
invariant-phis l = with_front l.phis (phis_at (naming l.names) (l.fuel - l._turn) (point l.at)) ≡ phis_at (naming l.names) l.fuel (point l.fn.p)
