-- what is counted now, with what comes, is what is counted in the end
use Rattle.std.proofs.Common.{◌≡◌, drop}
use Rattle.std.specs.List.{flat_map}
use Rattle.nir_ir.specs.Items.{reads}
use Rattle.nir_index.specs.Index.{counted}
use Rattle.nir_index.proofs.exchange.count_instrs.Given as goal

abbrev pub invariant-loop-instr : goal.invariant-loop-instr
invariant-loop-instr l = counted (flat_map reads (drop l.instr-index l.instrs)) l.counts ≡ counted (flat_map reads l.instrs) l.fn.counts
