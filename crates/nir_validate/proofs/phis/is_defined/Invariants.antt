-- what comes decides
use Rattle.std.proofs.Common.{◌≡◌, drop}
use Rattle.std.specs.List.{list_all}
use Rattle.nir_validate.specs.Predecessors.{is_defined_by}
use Rattle.nir_validate.proofs.phis.is_defined.Given as goal

abbrev pub invariant-loop-way : goal.invariant-loop-way
invariant-loop-way l = list_all (is_defined_by l.scope l.source) (drop l.way-index l.ways) ≡ list_all (is_defined_by l.scope l.source) l.ways
