use Rattle.std.proofs.Common.{◌≡◌, ◌+◌, ◌^◌, ◌*◌, ◌<◌, ◌≤◌, true, Bool, [], ◌∷◌, ◌&&◌, length, get_or, drop, ap, sym, subst, ◌∙◌, arith, refl}
use Rattle.std.specs.Prelude.{nat_lt}
use Rattle.nir_ops.specs.declared.width.Width.TheVariants.{W1}
use Rattle.nir_ops.specs.Width.{width_bits}
use Rattle.std.specs.List.{list_all}
use Rattle.std.proofs.Math.Bool.{and_assoc}
use Rattle.std.proofs.lemmas.Bool.{and_parts, ltb-true}
use Rattle.rule_term.specs.Terms.{terms_of}
use Rattle.rule_term.specs.Typings.{size_of, occurrences}
use Rattle.rule_term.specs.Holds.{is_word, is_met}
use Rattle.bit_circuit.proofs.Walks.{all-step, all-var, all-app, room-step, place-step, room-app, size-step}
use Rattle.rule_check.proofs.meets.+met.Goals as goal

pub met_in_list-met_in_term-seen-requires : goal.met_in_list-met_in_term-seen-requires
met_in_list-met_in_term-seen-requires t c =
    let room : c.loop-term.next + size_of (terms_of (drop c.loop-term.term-index c.args.list.now)) ≤ length c.args.widths.now = omega arith in
    let here = size-step c.args.list.now c.loop-term.term-index c.term-item.result c.loop-term-test.true c.term-item.is in
    let falls : 2 * size_of (terms_of (c.term-item.result ∷ [])) < t = omega (arith, c.decreases) in (
      falls,
      (
        room-step c.args.list.now c.loop-term.term-index c.term-item.result c.loop-term.next (length c.args.widths.now) c.loop-term-test.true c.term-item.is room,
        (and_parts _ _ (sym (all-step (is_word c.args.values.now) c.args.list.now c.loop-term.term-index c.term-item.result c.args.widths.now c.loop-term.next _ c.loop-term-test.true c.term-item.is refl) ∙ c.loop-term.invariant.words)).0,
      ),
    )

pub met_in_list-loop-term-preserved : goal.met_in_list-loop-term-preserved
met_in_list-loop-term-preserved t c =
    let here : Bool = list_all (is_met c.args.values.now) (occurrences (terms_of (c.term-item.result ∷ [])) (drop c.loop-term.next c.args.widths.now)) in
    let rest : Bool = list_all (is_met c.args.values.now) (occurrences (terms_of (drop (c.loop-term.term-index + 1) c.args.list.now)) (drop c.met_in_term-seen.result.next c.args.widths.now)) in
    record {
      met =
          ap (λ b. (c.loop-term.met && b) && rest) c.met_in_term-seen.ensures.met
          ∙ and_assoc c.loop-term.met here rest
          ∙ ap (λ b. c.loop-term.met && b)
          (sym (all-step (is_met c.args.values.now) c.args.list.now c.loop-term.term-index c.term-item.result c.args.widths.now c.loop-term.next c.met_in_term-seen.result.next c.loop-term-test.true c.term-item.is c.met_in_term-seen.ensures.next))
          ∙ c.loop-term.invariant.met;
      place =
          place-step c.args.list.now c.loop-term.term-index c.term-item.result c.loop-term.next c.met_in_term-seen.result.next c.loop-term-test.true c.term-item.is c.met_in_term-seen.ensures.next
          ∙ c.loop-term.invariant.place;
      behind = omega arith;
      words =
          (and_parts _ _
          (sym (all-step (is_word c.args.values.now) c.args.list.now c.loop-term.term-index c.term-item.result c.args.widths.now c.loop-term.next c.met_in_term-seen.result.next c.loop-term-test.true c.term-item.is c.met_in_term-seen.ensures.next)
          ∙ c.loop-term.invariant.words)).1;
    }

pub met_in_term-meets_cond-requires : goal.met_in_term-meets_cond-requires
met_in_term-meets_cond-requires t c =
    ltb-true c.value_of.result (2 ^ width_bits (get_or c.args.widths.now c.args.at W1))
    (ap (λ n. nat_lt n (2 ^ width_bits (get_or c.args.widths.now c.args.at W1))) c.value_of.ensures
    ∙ sym (all-var (is_word c.args.values.now) c.args.term.now c.in-Var.var c.in-Var.constant c.in-Var.size c.in-Var.cond c.args.widths.now c.args.at c.in-Var.is)
    ∙ c.requires.words)

pub met_in_term-met_in_list-requires : goal.met_in_term-met_in_list-requires
met_in_term-met_in_list-requires t c =
    let whole = room-app c.args.term.now c.in-App.op c.in-App.size c.in-App.once c.in-App.args 0 (size_of (terms_of (c.args.term.now ∷ []))) c.in-App.is (omega arith) in
    let falls : 2 * size_of (terms_of c.as_slice.result.now) + 1 < t = subst (λ list. 2 * size_of (terms_of list) + 1 < t) (sym c.as_slice.ensures) (omega (arith, c.decreases)) in (
      falls,
      (
        subst (λ list. c.args.at + 1 + size_of (terms_of list) ≤ length c.args.widths.now) (sym c.as_slice.ensures)
            (room-app c.args.term.now c.in-App.op c.in-App.size c.in-App.once c.in-App.args c.args.at (length c.args.widths.now) c.in-App.is c.requires.room),
        subst (λ list. list_all (is_word c.args.values.now) (occurrences (terms_of list) (drop (c.args.at + 1) c.args.widths.now)) ≡ true) (sym c.as_slice.ensures)
            (sym (all-app (is_word c.args.values.now) c.args.term.now c.in-App.op c.in-App.size c.in-App.once c.in-App.args c.args.widths.now c.args.at c.in-App.is) ∙ c.requires.words),
      ),
    )

pub met_in_term-returns-in-Var-clause-met : goal.met_in_term-returns-in-Var-clause-met
met_in_term-returns-in-Var-clause-met t c =
    let e = all-var (is_met c.args.values.now) c.args.term.now c.in-Var.var c.in-Var.constant c.in-Var.size c.in-Var.cond c.args.widths.now c.args.at c.in-Var.is in
    cc

pub met_in_term-returns-in-App-clause-met : goal.met_in_term-returns-in-App-clause-met
met_in_term-returns-in-App-clause-met t c =
    c.met_in_list.ensures.met
    ∙ ap (λ list. list_all (is_met c.args.values.now) (occurrences (terms_of list) (drop (c.args.at + 1) c.args.widths.now))) c.as_slice.ensures
    ∙ sym (all-app (is_met c.args.values.now) c.args.term.now c.in-App.op c.in-App.size c.in-App.once c.in-App.args c.args.widths.now c.args.at c.in-App.is)
