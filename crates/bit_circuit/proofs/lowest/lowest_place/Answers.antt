use Rattle.std.proofs.Common.{◌≡◌, ◌<◌, ◌≤◌, ◌+◌, ◌-◌, length, drop, replicate, arith, ap, sym, ◌∙◌}
use Rattle.circuit_laws.specs.Blocks.{choice, lowest_place}
use Rattle.bit_circuit.specs.Growth.{grown}
use Rattle.bit_circuit.proofs.BlockLemmas.{lowest_none, lowest_turn}
use Rattle.bit_circuit.proofs.lowest.lowest_place.Goals as goal

pub places-init : goal.places-init
places-init c =
    let none = lowest_none c.args.xs.now c.args.circuit.now.next in
    record {
      word = c.in_ok-word.ensures ∙ ap (replicate 32) c.yes.ensures ∙ sym (ap (λ b. b.word) none);
      gates = sym (ap (λ b. grown c.args.circuit.now b.gates) none);
      within = omega arith;
    }

pub places-preserved : goal.places-preserved
places-preserved c =
    let xs = c.args.xs.now in
    let at = c.places.at - 1 in
    let k = c.places.circuit in
    let x = c.index-xs-at.result in
    let word = c.places.word in
    let start = c.args.circuit.now in
    let within : c.places.at ≤ length xs = c.places.invariant.within in
    let less : at < length xs = omega arith in
    let same : c.places.at ≡ at + 1 = omega arith in
    let chosen : c.in_ok-chosen.chosen ≡ (choice x c.in_ok-place.place word k.next).word = rw (← c.as_slice.ensures, ← c.as_slice-in-places.ensures) c.in_ok-chosen.ensures.word in
    let gates : c.each.new.circuit ≡ grown k (choice x c.in_ok-place.place word k.next).gates = rw (← c.as_slice.ensures, ← c.as_slice-in-places.ensures) c.in_ok-chosen.ensures.gates in
    let both = lowest_turn xs at x word c.in_ok-chosen.chosen c.in_ok-place.place k c.each.new.circuit start less c.index-xs-at.is
    (c.places.invariant.word ∙ ap (λ n. (lowest_place (drop n xs) n start.next).word) same)
    (c.places.invariant.gates ∙ ap (λ n. grown start (lowest_place (drop n xs) n start.next).gates) same)
    c.in_ok-place.ensures chosen gates in
    record { word = both.0; gates = both.1; within = omega arith }
