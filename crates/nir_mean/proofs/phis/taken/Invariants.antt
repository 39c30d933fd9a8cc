-- none before the place is for that block
use Rattle.std.proofs.Common.{◌≡◌, drop}
use Rattle.std.specs.List.{find}
use Rattle.nir_ir.specs.Definitions.{is_from}
use Rattle.nir_mean.proofs.phis.taken.Given as goal

abbrev pub invariant-loop-source : goal.invariant-loop-source
invariant-loop-source l = find (is_from l.from) (drop l.source-index l.sources) ≡ find (is_from l.from) l.sources
