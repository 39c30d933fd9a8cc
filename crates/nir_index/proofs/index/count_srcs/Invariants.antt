-- what is counted now, with what comes, is what is counted in the end
use Rattle.std.proofs.Common.{◌≡◌, drop, map}
use Rattle.nir_index.specs.Index.{counted}
use Rattle.nir_index.proofs.index.count_srcs.Given as goal

abbrev pub invariant-loop-src : goal.invariant-loop-src
invariant-loop-src l = counted (map (λ src. src.value) (drop l.src-index l.srcs)) l.counts ≡ counted (map (λ src. src.value) l.srcs) l.fn.counts
