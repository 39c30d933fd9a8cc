use Rattle.std.proofs.Common.{◌+◌, ◌*◌, ◌<◌, [], ◌∷◌, not, drop, ap, sym, subst, ◌∙◌, arith}
use Rattle.std.specs.Prelude.{find, Some, None, if◌then◌else◌}
use Rattle.std.specs.Option.{option_or}
use Rattle.nir_ops.specs.declared.op.Op.{Op}
use Rattle.rule_term.specs.Terms.{terms_of}
use Rattle.rule_term.specs.Pieces.{ops_of}
use Rattle.rule_term.specs.Typings.{size_of}
use Rattle.circuit_laws.specs.Opcodes.{has_circuit}
use Rattle.bit_circuit.proofs.WithoutLemmas.{found-var, found-lit, found-app, found-step, or_assoc}
use Rattle.bit_circuit.proofs.Walks.{size-step, size-all, room-app}
use Rattle.bit_circuit.proofs.without.+without.Goals as goal

pub without_in_list-without_in_term-requires : goal.without_in_list-without_in_term-requires
without_in_list-without_in_term-requires t c =
    let here = size-step c.args.list.now c.loop-term.term-index c.term-item.result c.loop-term-test.true c.term-item.is in
    let whole = size-all c.args.list.now c.loop-term.term-index in
    let falls : 2 * size_of (terms_of (c.term-item.result ∷ [])) < t = omega (arith, c.decreases, here, whole) in
    (falls, tt)

pub without_in_list-loop-term-preserved : goal.without_in_list-loop-term-preserved
without_in_list-loop-term-preserved t c =
    let test = λ (op : Op). not (has_circuit op) in
    let rest = find test (ops_of (terms_of (drop (c.loop-term.term-index + 1) c.args.list.now))) in
    let here = find test (ops_of (terms_of (c.term-item.result ∷ []))) in
    ap (λ f. option_or f rest) (c.or-found.ensures ∙ ap (option_or c.loop-term.found) c.without_in_term.ensures)
    ∙ or_assoc c.loop-term.found here rest
    ∙ ap (option_or c.loop-term.found) (sym (found-step test c.args.list.now c.loop-term.term-index c.term-item.result c.loop-term-test.true c.term-item.is))
    ∙ c.loop-term.invariant

pub without_in_term-without_in_list-requires : goal.without_in_term-without_in_list-requires
without_in_term-without_in_list-requires t c =
    let whole = room-app c.args.term.now c.in-App.op c.in-App.size c.in-App.once c.in-App.args 0 (size_of (terms_of (c.args.term.now ∷ []))) c.in-App.is (omega arith) in
    let falls : 2 * size_of (terms_of c.as_slice.result.now) + 1 < t = subst (λ list. 2 * size_of (terms_of list) + 1 < t) (sym c.as_slice.ensures) (omega (arith, c.decreases, whole)) in
    (falls, tt)

pub without_in_term-returns-in-App : goal.without_in_term-returns-in-App
without_in_term-returns-in-App t c =
    let test = λ (op : Op). not (has_circuit op) in
    c.or.ensures
    ∙ ap (λ o. option_or o c.without_in_list.result) c.own_without.ensures
    ∙ ap (option_or (if not (has_circuit c.in-App.op) then Some c.in-App.op else None)) (c.without_in_list.ensures ∙ ap (λ list. find test (ops_of (terms_of list))) c.as_slice.ensures)
    ∙ sym (found-app test c.args.term.now c.in-App.op c.in-App.size c.in-App.once c.in-App.args c.in-App.is)

pub without_in_term-returns-in-Var : goal.without_in_term-returns-in-Var
without_in_term-returns-in-Var t c = sym (found-var (λ op. not (has_circuit op)) c.args.term.now _ _ _ _ c.in-Var.is)

pub without_in_term-returns-in-Lit : goal.without_in_term-returns-in-Lit
without_in_term-returns-in-Lit t c = sym (found-lit (λ op. not (has_circuit op)) c.args.term.now _ _ c.in-Lit.is)
