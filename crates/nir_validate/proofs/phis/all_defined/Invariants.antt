-- what comes decides
use Rattle.std.proofs.Common.{◌≡◌, drop}
use Rattle.std.specs.List.{list_all}
use Rattle.nir_validate.specs.Predecessors.{is_defined_by}
use Rattle.nir_validate.proofs.phis.all_defined.Given as goal

abbrev pub invariant-loop-source : goal.invariant-loop-source
invariant-loop-source l =
    list_all (λ source. list_all (is_defined_by l.scope source) l.ways) (drop l.source-index l.sources) ≡ list_all (λ source. list_all (is_defined_by l.scope source) l.ways) l.sources
