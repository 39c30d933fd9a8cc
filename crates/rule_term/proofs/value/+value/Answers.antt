use Rattle.std.proofs.Common.{◌≡◌, refl, sym, ◌∙◌, ap, arith, length, take, drop, ◌<◌, to_z-of_z, [], ◌∷◌, rules, subst, List}
use Rattle.std.proofs.lemmas.List.{take_rest, length-drop, length-set}
use Rattle.rule_term.specs.declared.term.Term.{the_lemmas}
use denote.Param.Weighed.{at_most}
use Rattle.nir_ops.specs.declared.width.Width.{Width}
use Rattle.op_eval.specs.Calls.{Fits}
use Rattle.std.specs.Int.{w128}
use Rattle.nir_ops.specs.Width.{width_bits}
use Rattle.op_eval.specs.Word.{residue}
use Rattle.op_eval.specs.Words.{words_bits, words_widths}
use Rattle.rule_term.specs.Terms.{Nil, terms_of}
use Rattle.rule_term.specs.Typings.{size_of, first_of, roots}
use Rattle.rule_term.specs.Holds.{values_of}
use Rattle.rule_term.specs.Splits.{terms_count-terms_of, values_of-then, roots-then}
use Rattle.rule_term.specs.Lists.{terms_of-drop}
use Rattle.rule_term.proofs.NodesLemmas.{size_of-drop}
use Rattle.rule_term.proofs.SourcesLemmas.{behind, made_step}
use Rattle.rule_term.proofs.ReadyLemmas.{some_node, ready-then, at_var, at_lit, at_app, ready_at, ready_var, ready_app}
use Rattle.rule_term.proofs.value.+value.Goals as goal

pub value_of-bounds-widths-0 : goal.value_of-bounds-widths-0
value_of-bounds-widths-0 t c =
    let some = some_node c.args.term.now Nil in
    let enough = c.requires.ready.enough in
    omega arith

pub value_of-bounds-values-var : goal.value_of-bounds-values-var
value_of-bounds-values-var t c =
    let e = at_var c.args.term.now _ _ _ _ c.in-Var.is in
    (ready_var _ _ _ _ _ _ (ready_at _ _ _ _ _ e refl c.requires.ready)).1

pub value_of-invariant_of-result : goal.value_of-invariant_of-result
value_of-invariant_of-result t c =
    let e = at_var c.args.term.now _ _ _ _ c.in-Var.is in
    record { fits = (ready_var _ _ _ _ _ _ (ready_at _ _ _ _ _ e refl c.requires.ready)).2 }

pub value_of-returns-in-Var-clause-value : goal.value_of-returns-in-Var-clause-value
value_of-returns-in-Var-clause-value t c = ap (λ x. values_of x c.args.widths.now c.args.values.now) (at_var c.args.term.now _ _ _ _ c.in-Var.is)

pub value_of-returns-in-Lit-clause-value : goal.value_of-returns-in-Lit-clause-value
value_of-returns-in-Lit-clause-value t c =
    ap (λ x. values_of x c.args.widths.now c.args.values.now) (at_lit c.args.term.now _ _ c.in-Lit.is) ∙ ap (λ x. x ∷ []) (sym (c.reduced.ensures.value ∙ ap (residue (width_bits (first_of c.args.widths.now))) (to_z-of_z {w = w128} {z = c.in-Lit.value} (search rules))))

pub value_of-sources_of-sources-requires : goal.value_of-sources_of-sources-requires
value_of-sources_of-sources-requires t c = (
  search (rules, the_lemmas),
  (let e = at_app c.args.term.now _ _ _ _ c.in-App.is in
      let call = ready_app _ _ _ _ _ _ (ready_at _ _ _ _ _ e refl c.requires.ready) in
      let few = call.few in
      let count = terms_count-terms_of c.in-App.args in
      let whole = ap length c.as_slice.ensures in
      (ready_at _ _ _ _ _ (ap terms_of (sym c.as_slice.ensures)) (sym (take_rest c.args.widths.now 1)) call.sources, omega arith)),
)

pub value_of-eval-bits-requires-clause-each : goal.value_of-eval-bits-requires-clause-each
value_of-eval-bits-requires-clause-each t c =
    let e = at_app c.args.term.now _ _ _ _ c.in-App.is in
    (ready_app _ _ _ _ _ _ (ready_at _ _ _ _ _ e refl c.requires.ready)).each

pub value_of-eval-bits-requires-clause-fits : goal.value_of-eval-bits-requires-clause-fits
value_of-eval-bits-requires-clause-fits t c =
    let e = at_app c.args.term.now _ _ _ _ c.in-App.is in
    let call = ready_app _ _ _ _ _ _ (ready_at _ _ _ _ _ e refl c.requires.ready) in
    let rest = take_rest c.args.widths.now 1 in
    let made : words_widths (take c.sources_of-sources.result.count c.sources_of-sources.result.words) ≡ roots (terms_of c.in-App.args) (drop 1 c.args.widths.now) = cc in
    let P : List Width → Type 0 = λ x. Fits c.in-App.op (first_of c.args.widths.now) x in
    subst P (sym made) call.fits

pub value_of-returns-in-App-clause-value : goal.value_of-returns-in-App-clause-value
value_of-returns-in-App-clause-value t c =
    let e = at_app c.args.term.now _ _ _ _ c.in-App.is in
    let rest = take_rest c.args.widths.now 1 in
    let widths : words_widths (take c.sources_of-sources.result.count c.sources_of-sources.result.words) ≡ roots (terms_of c.in-App.args) (drop 1 c.args.widths.now) = cc in
    let values : words_bits (take c.sources_of-sources.result.count c.sources_of-sources.result.words) ≡ values_of (terms_of c.in-App.args) (drop 1 c.args.widths.now) c.args.values.now = cc in
    ap (λ x. values_of x c.args.widths.now c.args.values.now) e ∙ ap (λ x. x ∷ []) (sym (c.eval-bits.ensures.value ∙ cc (widths, values)))

pub value_of-slice_bounds-sources_of-count : goal.value_of-slice_bounds-sources_of-count
value_of-slice_bounds-sources_of-count t c =
    let some = some_node c.args.term.now Nil in
    let enough = c.requires.ready.enough in
    omega arith

pub value_of-slice_bounds-sources_of-start : goal.value_of-slice_bounds-sources_of-start
value_of-slice_bounds-sources_of-start t c =
    let some = some_node c.args.term.now Nil in
    let enough = c.requires.ready.enough in
    omega arith

pub value_of-overflow_add-result : goal.value_of-overflow_add-result
value_of-overflow_add-result t c =
    let e = at_app c.args.term.now _ _ _ _ c.in-App.is in
    let call = ready_app _ _ _ _ _ _ (ready_at _ _ _ _ _ e refl c.requires.ready) in
    let few = call.sources.enough in
    let left = length-drop 1 c.args.widths.now in
    let same : c.sources_of-sources.result.nodes ≡ size_of (terms_of c.in-App.args) = c.sources_of-sources.ensures.nodes ∙ ap (λ x. size_of (terms_of x)) c.as_slice.ensures in
    omega arith

pub sources_of-value_of-next-requires : goal.sources_of-value_of-next-requires
sources_of-value_of-next-requires t c =
    let split = terms_of-drop c.args.terms.now c.loop-at.at c.index-terms-at.result c.loop-at-test.true c.index-terms-at.is in
    let ready = (ready-then _ _ _ _ (ready_at _ _ _ _ _ split refl c.loop-at.invariant.ready)).0 in
    (search (rules, the_lemmas, at_most), ready_at _ _ _ _ _ refl (sym (take_rest c.args.widths.now c.loop-at.nodes)) ready)

pub sources_of-overflow_add-nodes : goal.sources_of-overflow_add-nodes
sources_of-overflow_add-nodes t c =
    let split = size_of-drop c.args.terms.now c.loop-at.at c.index-terms-at.result c.loop-at-test.true c.index-terms-at.is in
    let made = c.loop-at.invariant.nodes_made in
    let enough = c.requires.ready.enough in
    omega arith

pub sources_of-loop-at-preserved : goal.sources_of-loop-at-preserved
sources_of-loop-at-preserved t c =
    let list = c.args.terms.now in
    let i = c.loop-at.at in
    let term = c.index-terms-at.result in
    let widths = c.args.widths.now in
    let values = c.args.values.now in
    let next = c.value_of-next.result in
    let within = c.loop-at-test.true in
    let at = c.index-terms-at.is in
    let size = c.value_of-next.ensures.nodes in
    let few = c.requires.few in
    let long = c.loop-at.invariant.room in
    let room : i < length c.loop-at.words = omega arith in
    let split = terms_of-drop list i term within at in
    let rest = take_rest widths c.loop-at.nodes in
    let value = ap (λ l. values_of (terms_of (term ∷ [])) l values) (sym rest) ∙ c.value_of-next.ensures.value in
    let width = ap (λ l. roots (terms_of (term ∷ [])) l) (sym rest) ∙ c.value_of-next.ensures.width in
    let nodes = size_of-drop list i term within at in
    let made = c.loop-at.invariant.nodes_made in
    record {
      values_made = made_step (λ terms l. values_of terms l values) (λ word. word.bits) (λ a b l. values_of-then a b l values) list i term widths c.loop-at.nodes next.nodes c.loop-at.words next.word _ within at room size value c.loop-at.invariant.values_made;
      widths_made = made_step roots (λ word. word.width) roots-then list i term widths c.loop-at.nodes next.nodes c.loop-at.words next.word _ within at room size width c.loop-at.invariant.widths_made;
      nodes_made = omega arith;
      ready = ready_at _ _ _ _ _ refl (behind c.loop-at.nodes next.nodes _ widths size) (ready-then _ _ _ _ (ready_at _ _ _ _ _ split refl c.loop-at.invariant.ready)).1;
      room = length-set c.loop-at.words i next.word ∙ long;
    }
