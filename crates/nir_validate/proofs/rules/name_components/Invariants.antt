-- what comes decides
use Rattle.std.proofs.Common.{◌≡◌, drop}
use Rattle.std.specs.List.{list_all}
use Rattle.nir_validate.specs.KindTable.{kinds_in}
use Rattle.nir_validate.specs.Rules.{names_components}
use Rattle.nir_validate.proofs.rules.name_components.Given as goal

abbrev pub invariant-loop-src : goal.invariant-loop-src
invariant-loop-src l = list_all (names_components (kinds_in l.kinds)) (drop l.src-index l.srcs) ≡ list_all (names_components (kinds_in l.kinds)) l.srcs
