use Rattle.std.proofs.Common.{◌≡◌, ◌++◌, replicate, ◌∙◌}
use Rattle.bit_circuit.proofs.BlockLemmas.{with_part_made}
use Rattle.bit_circuit.proofs.product.with_part.Goals as goal

pub returns-clause-word : goal.returns-clause-word
returns-clause-word c =
    let bits : c.as_slice.result.now ≡ replicate c.saturating_sub-kept.result c.args.bit = c.as_slice.ensures ∙ c.in_ok-bits.ensures in
    let added : c.as_slice-4.result.now ≡ c.in_ok-below.below ++ c.in_ok-part.part = c.as_slice-4.ensures ∙ rw (← c.as_slice-2.ensures, ← c.as_slice-3.ensures) c.in_ok-added.ensures in
    (with_part_made c.args.xs.now c.args.sum.now c.as_slice.result.now c.in_ok-part.part c.in_ok-below.below c.as_slice-4.result.now c.in_ok-more.more.word c.args.bit c.no.result c.no-2.result
    c.args.place c.saturating_sub-kept.result c.args.circuit.now c.each.new.circuit c.adder.new.circuit c.saturating_sub-kept.ensures bits c.in_ok-part.ensures.word c.in_ok-part.ensures.gates
    c.no.ensures c.in_ok-below.ensures added c.no-2.ensures c.in_ok-more.ensures.word c.in_ok-more.ensures.gates).0

pub returns-clause-gates : goal.returns-clause-gates
returns-clause-gates c =
    let bits : c.as_slice.result.now ≡ replicate c.saturating_sub-kept.result c.args.bit = c.as_slice.ensures ∙ c.in_ok-bits.ensures in
    let added : c.as_slice-4.result.now ≡ c.in_ok-below.below ++ c.in_ok-part.part = c.as_slice-4.ensures ∙ rw (← c.as_slice-2.ensures, ← c.as_slice-3.ensures) c.in_ok-added.ensures in
    (with_part_made c.args.xs.now c.args.sum.now c.as_slice.result.now c.in_ok-part.part c.in_ok-below.below c.as_slice-4.result.now c.in_ok-more.more.word c.args.bit c.no.result c.no-2.result
    c.args.place c.saturating_sub-kept.result c.args.circuit.now c.each.new.circuit c.adder.new.circuit c.saturating_sub-kept.ensures bits c.in_ok-part.ensures.word c.in_ok-part.ensures.gates
    c.no.ensures c.in_ok-below.ensures added c.no-2.ensures c.in_ok-more.ensures.word c.in_ok-more.ensures.gates).1
