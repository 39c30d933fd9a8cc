-- what was found and what comes is what is found in the end
use Rattle.std.proofs.Common.{◌≡◌, ◌+◌, drop}
use Rattle.nir_validate.specs.Least.{sooner}
use Rattle.nir_validate.specs.Steps.{edges_of, found_phis}
use Rattle.nir_validate.proofs.round.Round.phis.Given as goal

abbrev pub invariant-loop-phi : goal.invariant-loop-phi
invariant-loop-phi l =
    (l.self.scope ≡ l.fn.self.scope) × (l.self.item ≡ l.fn.self.item) × (l.item ≡ l.first + l.phi-index)
    × (sooner l.self.found (found_phis l.item (edges_of l.fn.self.scope l.ways) (drop l.phi-index l.phis)) ≡ sooner l.fn.self.found (found_phis l.first (edges_of l.fn.self.scope l.ways) l.phis))
