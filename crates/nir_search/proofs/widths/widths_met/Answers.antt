use Rattle.std.proofs.Common.{arith}
use Rattle.rule_term.specs.FewNodes.{few_searched}
use Rattle.nir_search.proofs.widths.widths_met.Goals as goal

pub meet_term-bits-requires : goal.meet_term-bits-requires
meet_term-bits-requires c =
    let few = few_searched _ c.rule.invariant in
    let empty = c.new-widths.ensures in
    record { room = grind (arith, few, empty) }
