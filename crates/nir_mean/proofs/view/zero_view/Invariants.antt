-- as many zeros as were pushed
use Rattle.std.proofs.Common.{◌≡◌, replicate}
use Rattle.nir_mean.proofs.view.zero_view.Given as goal

abbrev pub invariant-loop : goal.invariant-loop
invariant-loop l = l.comps ≡ replicate l.counter 0
