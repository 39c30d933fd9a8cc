-- Phis read together: each is given what was read for it, after all were read.
use Rattle.std.specs.Prelude.{ℕ, List, [], ◌∷◌}
use Rattle.nir_ir.specs.declared.node.Phi.{Phi}
use Rattle.nir_mean.specs.State.{with_value}
use Rattle.nir_mean.specs.Values.{Values}

-- the values, where each phi has what stands at its place
abbrev pub written : List Phi → List (List ℕ) → Values → Values
written [] taken values = values
written (phi ∷ phis) [] values = values
written (phi ∷ phis) (comps ∷ taken) values = with_value phi.value comps (written phis taken values)
