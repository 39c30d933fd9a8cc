-- how many there are so far, at most one, and how many come
use Rattle.std.proofs.Common.{◌≡◌, ◌+◌, drop, cond, nat_eq}
use Rattle.std.specs.List.{count_by}
use Rattle.nir_validate.proofs.phis.names_once.Given as goal

abbrev pub invariant-loop-source : goal.invariant-loop-source
invariant-loop-source l =
    count_by (λ source. nat_eq l.block.0 source.from.0) (drop l.source-index l.sources) + cond l.found 1 0 ≡ count_by (λ source. nat_eq l.block.0 source.from.0) l.sources
