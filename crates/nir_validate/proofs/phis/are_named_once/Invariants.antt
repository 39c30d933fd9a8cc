-- what comes decides
use Rattle.std.proofs.Common.{◌≡◌, drop}
use Rattle.std.specs.List.{list_all}
use Rattle.nir_validate.specs.Predecessors.{is_named_once}
use Rattle.nir_validate.proofs.phis.are_named_once.Given as goal

abbrev pub invariant-loop-way : goal.invariant-loop-way
invariant-loop-way l = list_all (is_named_once l.sources) (drop l.way-index l.ways) ≡ list_all (is_named_once l.sources) l.ways
