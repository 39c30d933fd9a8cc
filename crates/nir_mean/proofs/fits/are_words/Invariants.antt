use Rattle.std.proofs.Common.{◌≡◌, ◌^◌, drop, nat_lt}
use Rattle.std.specs.List.{list_all}
use Rattle.nir_ops.specs.Width.{width_bits}
use Rattle.nir_mean.proofs.fits.are_words.Given as goal

abbrev pub invariant-loop-comp : goal.invariant-loop-comp
invariant-loop-comp l = list_all (λ comp. nat_lt comp (2 ^ width_bits l.width)) (drop l.comp-index l.comps) ≡ list_all (λ comp. nat_lt comp (2 ^ width_bits l.width)) l.comps
