-- what is counted now, with what comes, is what is counted in the end
use Rattle.std.proofs.Common.{◌≡◌, drop, map}
use Rattle.nir_index.specs.Index.{counted}
use Rattle.nir_index.proofs.index.count_sources.Given as goal

abbrev pub invariant-loop-source : goal.invariant-loop-source
invariant-loop-source l = counted (map (λ source. source.value) (drop l.source-index l.sources)) l.counts ≡ counted (map (λ source. source.value) l.sources) l.fn.counts
