-- what comes decides
use Rattle.std.proofs.Common.{◌≡◌, drop}
use Rattle.std.specs.List.{list_any}
use Rattle.nir_validate.specs.Predecessors.{comes_from_block}
use Rattle.nir_validate.proofs.phis.names_some.Given as goal

abbrev pub invariant-loop-way : goal.invariant-loop-way
invariant-loop-way l = list_any (comes_from_block l.source.from.0) (drop l.way-index l.ways) ≡ list_any (comes_from_block l.source.from.0) l.ways
