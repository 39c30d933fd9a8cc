-- what comes decides
use Rattle.std.proofs.Common.{◌≡◌, drop, is_some}
use Rattle.std.specs.List.{list_any}
use Rattle.nir_validate.proofs.phis.is_from_block.Given as goal

abbrev pub invariant-loop-way : goal.invariant-loop-way
invariant-loop-way l = list_any (λ way. is_some way.from) (drop l.way-index l.ways) ≡ list_any (λ way. is_some way.from) l.ways
