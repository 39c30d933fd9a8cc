-- what comes decides
use Rattle.std.proofs.Common.{◌≡◌, drop}
use Rattle.std.specs.List.{list_all}
use Rattle.nir_validate.specs.Predecessors.{is_defined_in}
use Rattle.nir_validate.proofs.edge_table.are_defined_in.Given as goal

abbrev pub invariant-loop-source : goal.invariant-loop-source
invariant-loop-source l = list_all (is_defined_in l.scope l.table.entries) (drop l.source-index l.sources) ≡ list_all (is_defined_in l.scope l.table.entries) l.sources
