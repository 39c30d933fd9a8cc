use Rattle.std.proofs.Common.{◌+◌, ◌*◌, ◌<◌, ◌≤◌, [], ◌∷◌, Option, length, drop, ap, sym, subst, ◌∙◌, arith}
use Rattle.std.specs.Option.{option_or}
use Rattle.nir_ops.specs.declared.width.Width.{Width}
use Rattle.rule_term.specs.Terms.{terms_of}
use Rattle.rule_term.specs.Typings.{size_of, occurrences}
use Rattle.circuit_laws.specs.Variables.{width_found}
use Rattle.bit_circuit.proofs.Walks.{found-step, found-var, occurrences-at_app, or_assoc, room-step, place-step, room-app, size-step}
use Rattle.bit_circuit.proofs.variables.+found.Goals as goal

pub found_in_list-found_in_term-found-requires : goal.found_in_list-found_in_term-found-requires
found_in_list-found_in_term-found-requires t c =
    let room : c.loop-term.next + size_of (terms_of (drop c.loop-term.term-index c.args.list.now)) ≤ length c.args.widths.now = omega arith in
    let here = size-step c.args.list.now c.loop-term.term-index c.term-item.result c.loop-term-test.true c.term-item.is in
    let falls : 2 * size_of (terms_of (c.term-item.result ∷ [])) < t = omega (arith, c.decreases) in
    (falls, room-step c.args.list.now c.loop-term.term-index c.term-item.result c.loop-term.next (length c.args.widths.now) c.loop-term-test.true c.term-item.is room)

pub found_in_list-loop-term-preserved : goal.found_in_list-loop-term-preserved
found_in_list-loop-term-preserved t c =
    let here : Option Width = width_found (occurrences (terms_of (c.term-item.result ∷ [])) (drop c.loop-term.next c.args.widths.now)) c.args.var in
    let rest : Option Width = width_found (occurrences (terms_of (drop (c.loop-term.term-index + 1) c.args.list.now)) (drop c.found_in_term-found.result.next c.args.widths.now)) c.args.var in
    record {
      found =
          ap (λ w. option_or w rest) c.or-width.ensures
          ∙ ap (λ w. option_or (option_or c.loop-term.width w) rest) c.found_in_term-found.ensures.width
          ∙ or_assoc c.loop-term.width here rest
          ∙ ap (option_or c.loop-term.width)
          (sym (found-step c.args.var c.args.list.now c.loop-term.term-index c.term-item.result c.args.widths.now c.loop-term.next c.found_in_term-found.result.next c.loop-term-test.true c.term-item.is c.found_in_term-found.ensures.next))
          ∙ c.loop-term.invariant.found;
      place =
          place-step c.args.list.now c.loop-term.term-index c.term-item.result c.loop-term.next c.found_in_term-found.result.next c.loop-term-test.true c.term-item.is c.found_in_term-found.ensures.next
          ∙ c.loop-term.invariant.place;
      behind = omega arith;
    }

pub found_in_term-found_in_list-requires : goal.found_in_term-found_in_list-requires
found_in_term-found_in_list-requires t c =
    let whole = room-app c.args.term.now c.in-App.op c.in-App.size c.in-App.once c.in-App.args 0 (size_of (terms_of (c.args.term.now ∷ []))) c.in-App.is (omega arith) in
    let falls : 2 * size_of (terms_of c.as_slice.result.now) + 1 < t = subst (λ list. 2 * size_of (terms_of list) + 1 < t) (sym c.as_slice.ensures) (omega (arith, c.decreases)) in (
      falls,
      subst (λ list. c.args.at + 1 + size_of (terms_of list) ≤ length c.args.widths.now) (sym c.as_slice.ensures)
          (room-app c.args.term.now c.in-App.op c.in-App.size c.in-App.once c.in-App.args c.args.at (length c.args.widths.now) c.in-App.is c.requires.room),
    )

pub found_in_term-returns-in-Var-clause-width : goal.found_in_term-returns-in-Var-clause-width
found_in_term-returns-in-Var-clause-width t c =
    let e = found-var c.args.sought c.args.term.now c.in-Var.var c.in-Var.constant c.in-Var.size c.in-Var.cond c.args.widths.now c.args.at c.in-Var.is in
    cc

pub found_in_term-returns-in-App-clause-width : goal.found_in_term-returns-in-App-clause-width
found_in_term-returns-in-App-clause-width t c =
    c.found_in_list.ensures.width
    ∙ ap (λ list. width_found (occurrences (terms_of list) (drop (c.args.at + 1) c.args.widths.now)) c.args.sought) c.as_slice.ensures
    ∙ sym (ap (λ l. width_found l c.args.sought) (occurrences-at_app c.args.term.now c.in-App.op c.in-App.size c.in-App.once c.in-App.args c.args.widths.now c.args.at c.in-App.is))
