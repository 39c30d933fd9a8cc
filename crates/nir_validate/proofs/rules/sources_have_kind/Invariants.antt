-- what comes decides
use Rattle.std.proofs.Common.{◌≡◌, drop}
use Rattle.std.specs.List.{list_all}
use Rattle.nir_validate.specs.KindTable.{kinds_in}
use Rattle.nir_validate.specs.Rules.{has_kind}
use Rattle.nir_validate.proofs.rules.sources_have_kind.Given as goal

abbrev pub invariant-loop-source : goal.invariant-loop-source
invariant-loop-source l = list_all (λ source. has_kind (kinds_in l.kinds) source.value l.kind) (drop l.source-index l.sources) ≡ list_all (λ source. has_kind (kinds_in l.kinds) source.value l.kind) l.sources
