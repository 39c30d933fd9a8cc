-- what is counted now, without what comes, is what is counted in the end
use Rattle.std.proofs.Common.{◌≡◌, drop, map}
use Rattle.nir_index.specs.Index.{uncounted}
use Rattle.nir_index.proofs.exchange.drop_srcs.Given as goal

abbrev pub invariant-loop-src : goal.invariant-loop-src
invariant-loop-src l = uncounted (map (λ src. src.value) (drop l.src-index l.srcs)) l.counts ≡ uncounted (map (λ src. src.value) l.srcs) l.fn.counts
