-- none before the place defines the value
use Rattle.std.proofs.Common.{◌≡◌, drop}
use Rattle.std.specs.List.{find}
use Rattle.nir_ir.specs.Definitions.{is_phi_of}
use Rattle.nir_ir.proofs.find.first_phi.Given as goal

abbrev pub invariant-loop-phi : goal.invariant-loop-phi
invariant-loop-phi l = find (is_phi_of l.value) (drop l.phi-index l.phis) ≡ find (is_phi_of l.value) l.phis
