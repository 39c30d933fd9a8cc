use Rattle.std.proofs.Common.{◌≡◌, ◌+◌, ◌*◌, ◌<◌, [], ◌∷◌, drop, ap, sym, subst, ◌∙◌, arith}
use Rattle.std.specs.Prelude.{OnOk}
use Rattle.rule_term.specs.Terms.{terms_of}
use Rattle.rule_term.specs.Typings.{size_of}
use Rattle.bit_circuit.specs.declared.circuit.Circuit.{Circuit}
use Rattle.bit_circuit.proofs.ConditionsLemmas.{asks, asks-var, asks-lit, asks-app, asks-step}
use Rattle.bit_circuit.proofs.Walks.{size-step, size-all, room-app}
use Rattle.bit_circuit.proofs.conditions.+conditions.Goals as goal

pub meet_in_list-meet_in_term-requires : goal.meet_in_list-meet_in_term-requires
meet_in_list-meet_in_term-requires t c =
    let here = size-step c.args.list.now c.loop-term.term-index c.term-item.result c.loop-term-test.true c.term-item.is in
    let whole = size-all c.args.list.now c.loop-term.term-index in
    let falls : 2 * size_of (terms_of (c.term-item.result ∷ [])) < t = omega (arith, c.decreases, here, whole) in
    (falls, tt)

pub meet_in_term-meet_in_list-requires : goal.meet_in_term-meet_in_list-requires
meet_in_term-meet_in_list-requires t c =
    let whole = room-app c.args.term.now c.in-App.op c.in-App.size c.in-App.once c.in-App.args 0 (size_of (terms_of (c.args.term.now ∷ []))) c.in-App.is (omega arith) in
    let falls : 2 * size_of (terms_of c.as_slice.result.now) + 1 < t = subst (λ list. 2 * size_of (terms_of list) + 1 < t) (sym c.as_slice.ensures) (omega (arith, c.decreases, whole)) in
    (falls, tt)

pub meet_in_list-loop-term-preserved : goal.meet_in_list-loop-term-preserved
meet_in_list-loop-term-preserved t c =
    ap (λ x. asks x c.args.vars.now (terms_of (drop (c.loop-term.term-index + 1) c.args.list.now))) c.in_ok-meet_in_term.ensures
    ∙ sym (asks-step c.args.list.now c.loop-term.term-index c.term-item.result c.loop-term.circuit c.args.vars.now c.loop-term-test.true c.term-item.is)
    ∙ c.loop-term.invariant

pub meet_in_term-returns-in-Var : goal.meet_in_term-returns-in-Var
meet_in_term-returns-in-Var t c =
    subst (λ (k : Circuit). OnOk c.meet_at.result (c.meet_at.new.circuit ≡ k))
    (sym (asks-var c.args.term.now c.in-Var.var c.in-Var.constant c.in-Var.size c.in-Var.cond c.args.circuit.now c.args.vars.now c.in-Var.is)) c.meet_at.ensures

pub meet_in_term-returns-in-Lit : goal.meet_in_term-returns-in-Lit
meet_in_term-returns-in-Lit t c = sym (asks-lit c.args.term.now c.in-Lit.value c.in-Lit.boolean c.args.circuit.now c.args.vars.now c.in-Lit.is)

pub meet_in_term-returns-in-App : goal.meet_in_term-returns-in-App
meet_in_term-returns-in-App t c =
    subst (λ (k : Circuit). OnOk c.meet_in_list.result (c.meet_in_list.new.circuit ≡ k))
    (ap (λ list. asks c.args.circuit.now c.args.vars.now (terms_of list)) c.as_slice.ensures
    ∙ sym (asks-app c.args.term.now c.in-App.op c.in-App.size c.in-App.once c.in-App.args c.args.circuit.now c.args.vars.now c.in-App.is))
    c.meet_in_list.ensures
