-- as many definers as were passed
use Rattle.std.proofs.Common.{◌≡◌, ◌++◌, replicate}
use Rattle.nir_index.specs.Index.{unknown}
use Rattle.nir_index.proofs.exchange.lengthen_definers.Given as goal

abbrev pub invariant-loop-more : goal.invariant-loop-more
invariant-loop-more l = l.definers ≡ l.fn.definers ++ replicate l._more unknown
