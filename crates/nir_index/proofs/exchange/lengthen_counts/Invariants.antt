-- as many zeros as were passed
use Rattle.std.proofs.Common.{◌≡◌, ◌++◌, replicate}
use Rattle.nir_index.proofs.exchange.lengthen_counts.Given as goal

abbrev pub invariant-loop-more : goal.invariant-loop-more
invariant-loop-more l = l.counts ≡ l.fn.counts ++ replicate l._more 0
