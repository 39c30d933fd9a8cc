use Rattle.std.proofs.Common.{◌≡◌, ap, ◌∙◌, subst, List}
use Rattle.std.specs.Prelude.{OnOk}
use Rattle.circuit_laws.specs.Blocks.{and_word, subtracter}
use Rattle.circuit_laws.specs.Literals.{Lit}
use Rattle.bit_circuit.specs.declared.circuit.Circuit.{Circuit}
use Rattle.bit_circuit.specs.Growth.{asked, grown}
use Rattle.bit_circuit.proofs.ConditionsLemmas.{negative_is}
use Rattle.bit_circuit.proofs.conditions.negative_power.Goals as goal

pub returns : goal.returns
returns c =
    let k0 : Circuit = c.negation.new.circuit in
    let k1 : Circuit = c.subtracter.new.circuit in
    let one : List Lit = c.as_slice-2.result.now in
    let before : List Lit = c.as_slice-4.result.now in
    subst (λ (k : Circuit). OnOk c.ask.result (c.ask.new.self ≡ k))
    (ap (asked c.deny.new.circuit) c.as_slice-6.ensures
    ∙ negative_is c.args.circuit.now k0 k1 c.each.new.circuit c.deny.new.circuit c.args.xs.now c.in_ok-minus.minus.word one before c.as_slice-5.result.now
    c.in_ok-minus.ensures.word c.in_ok-minus.ensures.gates
    (c.as_slice-2.ensures ∙ c.in_ok-one.ensures)
    (c.as_slice-4.ensures ∙ c.in_ok-before.ensures.word ∙ ap (λ m. (subtracter m one k0.next).word) c.as_slice.ensures)
    (c.in_ok-before.ensures.gates ∙ ap (λ m. grown k0 (subtracter m one k0.next).gates) c.as_slice.ensures)
    (c.as_slice-5.ensures ∙ c.in_ok-both.ensures.word ∙ ap (λ m. (and_word m before k1.next).word) c.as_slice-3.ensures)
    (c.in_ok-both.ensures.gates ∙ ap (λ m. grown k1 (and_word m before k1.next).gates) c.as_slice-3.ensures)
    c.in_ok-deny.ensures)
    c.ask.ensures
