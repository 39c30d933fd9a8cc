-- the pass so far, and past what comes, is the whole
use Rattle.std.proofs.Common.{◌≡◌, drop}
use Rattle.nir_validate.specs.KindTable.{kinds_in}
use Rattle.nir_validate.specs.Passing.{passed_phis}
use Rattle.nir_validate.proofs.first.pass_phis.Given as goal

abbrev pub invariant-loop-phi : goal.invariant-loop-phi
invariant-loop-phi l = passed_phis (kinds_in l.kinds) l.pass (drop l.phi-index l.phis) ≡ passed_phis (kinds_in l.kinds) l.fn.pass l.phis
