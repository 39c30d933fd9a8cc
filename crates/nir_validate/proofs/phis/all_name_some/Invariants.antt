-- what comes decides
use Rattle.std.proofs.Common.{◌≡◌, drop}
use Rattle.std.specs.List.{list_all}
use Rattle.nir_validate.specs.Predecessors.{names_some}
use Rattle.nir_validate.proofs.phis.all_name_some.Given as goal

abbrev pub invariant-loop-source : goal.invariant-loop-source
invariant-loop-source l = list_all (names_some l.ways) (drop l.source-index l.sources) ≡ list_all (names_some l.ways) l.sources
