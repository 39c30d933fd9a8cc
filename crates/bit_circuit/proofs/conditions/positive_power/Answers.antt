use Rattle.std.proofs.Common.{◌≡◌, ap, ◌∙◌, subst, take}
use Rattle.std.specs.Prelude.{OnOk}
use Rattle.circuit_laws.specs.Literals.{negated}
use Rattle.bit_circuit.specs.declared.circuit.Circuit.{Circuit}
use Rattle.bit_circuit.proofs.ConditionsLemmas.{positive_is}
use Rattle.bit_circuit.proofs.conditions.positive_power.Goals as goal

pub returns : goal.returns
returns c =
    subst (λ (k : Circuit). OnOk c.ask-2.result (c.ask-2.new.self ≡ k))
    (positive_is c.args.circuit.now c.subtracter.new.circuit c.each.new.circuit c.deny.new.circuit c.ask.new.self c.args.xs.now c.as_slice.result.now c.as_slice-2.result.now c.as_slice-3.result.now
    (take c.saturating_sub.result c.args.xs.now) c.negated.result
    (c.as_slice.ensures ∙ c.in_ok-one.ensures)
    (c.as_slice-2.ensures ∙ c.in_ok-before.ensures.word) c.in_ok-before.ensures.gates
    (c.as_slice-3.ensures ∙ c.in_ok-both.ensures.word) c.in_ok-both.ensures.gates
    c.in_ok-deny.ensures
    (ap (λ m. take m c.args.xs.now) c.saturating_sub.ensures)
    c.in_ok-ask.ensures
    (c.negated.ensures ∙ ap negated c.top.ensures))
    c.ask-2.ensures
