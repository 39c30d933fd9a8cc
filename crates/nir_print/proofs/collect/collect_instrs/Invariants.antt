-- what is left leads to what all of them lead to
use Rattle.std.proofs.Common.{◌≡◌, drop, fold, map}
use Rattle.std.specs.List.{flat_map}
use Rattle.nir_ir.specs.Items.{InstrItem}
use Rattle.nir_print.specs.Naming.{with_item}
use Rattle.nir_print.specs.RoundTrip.{are_words, addresses_of}
use Rattle.nir_print.proofs.collect.collect_instrs.Given as goal

abbrev pub invariant-loop-instr : goal.invariant-loop-instr
invariant-loop-instr l =
    (fold with_item l.found (map InstrItem (drop l.instr-index l.instrs)) ≡ fold with_item l.fn.found (map InstrItem l.instrs))
    × (are_words (flat_map addresses_of (drop l.instr-index l.instrs)) ≡ are_words (flat_map addresses_of l.instrs))
