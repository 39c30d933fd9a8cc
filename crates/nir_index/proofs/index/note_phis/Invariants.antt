-- what is noted now, with what comes, is what is noted in the end
use Rattle.std.proofs.Common.{◌≡◌, drop, map}
use Rattle.nir_ir.specs.Items.{PhiItem}
use Rattle.nir_index.specs.Index.{noted}
use Rattle.nir_index.proofs.index.note_phis.Given as goal

abbrev pub invariant-loop-phi : goal.invariant-loop-phi
invariant-loop-phi l = noted (map PhiItem (drop l.phi-index l.phis)) l.index ≡ noted (map PhiItem l.phis) l.fn.index
