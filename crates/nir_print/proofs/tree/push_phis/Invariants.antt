-- the lines that are written and those that are left make all
use Rattle.std.proofs.Common.{◌≡◌, ◌++◌, drop}
use Rattle.std.specs.List.{flat_map}
use Rattle.nir_print.specs.Text.{line, phi_text}
use Rattle.nir_print.proofs.tree.push_phis.Given as goal

abbrev pub invariant-loop-phi : goal.invariant-loop-phi
invariant-loop-phi l = l.out.items ++ flat_map (λ phi. line l.indent (phi_text l.naming phi)) (drop l.phi-index l.phis) ≡ l.fn.out.items ++ flat_map (λ phi. line l.indent (phi_text l.naming phi)) l.phis
