use Rattle.std.proofs.Common.{◌≡◌, ◌∙◌, ◌+◌, ◌++◌, [], ◌∷◌, sym, ap, length, map, drop, append_assoc, arith, rules}
use Rattle.std.proofs.lemmas.List.{length-append}
use denote.Param.Weighed.{at_most}
use Rattle.nir_ir.specs.Definitions.{width_at}
use Rattle.rule_term.specs.declared.term.Term.{the_lemmas}
use Rattle.rule_term.specs.Terms.{terms_of}
use Rattle.rule_term.specs.Typings.{size_of}
use Rattle.rule_term.specs.Variants.{bits_behind, bits_left, is_swapped}
use Rattle.rule_variants.specs.BitLaws.{bits_behind-drop}
use Rattle.nir_search.specs.Match.{child, children, met, swapped}
use Rattle.nir_search.specs.Met.{length-met}
use Rattle.nir_search.proofs.WalkLemmas.{bits_app, bits_lit, bits_var, met_app, met_lit, met_on, met_var, size_app, size_on, some_node}
use Rattle.nir_search.proofs.widths.+meet.Goals as goal

pub meet_term-push-requires : goal.meet_term-push-requires
meet_term-push-requires t c =
    let some = some_node c.args.term.now in
    let room = c.requires.room in
    omega arith

pub meet_term-meet_terms-requires : goal.meet_term-meet_terms-requires
meet_term-meet_terms-requires t c = (
  search (rules, the_lemmas, at_most),
  (
    c.as_slice-in-App.ensures.fits,
    let whole = size_app c.args.term.now c.in-App.op c.in-App.size c.in-App.once c.in-App.args c.in-App.is in
        let same : size_of (terms_of c.as_slice.result.now) ≡ size_of (terms_of c.in-App.args) = ap (λ x. size_of (terms_of x)) c.as_slice.ensures in
        let room = c.requires.room in
        let pushed = ap length c.push.ensures.items ∙ length-append c.args.widths.now.items (c.width_at.result ∷ []) in
        omega (arith, whole, same, room, pushed),
  ),
)

pub meet_term-returns-in-Var-clause-left : goal.meet_term-returns-in-Var-clause-left
meet_term-returns-in-Var-clause-left t c = sym (bits_var c.args.term.now c.in-Var.var c.in-Var.constant c.in-Var.size c.in-Var.cond c.args.bits c.in-Var.is)

pub meet_term-returns-in-Lit-clause-left : goal.meet_term-returns-in-Lit-clause-left
meet_term-returns-in-Lit-clause-left t c = sym (bits_lit c.args.term.now c.in-Lit.value c.in-Lit.boolean c.args.bits c.in-Lit.is)

pub meet_term-returns-in-Var-clause-met : goal.meet_term-returns-in-Var-clause-met
meet_term-returns-in-Var-clause-met t c =
    c.push.ensures.items
    ∙ ap (λ w. c.args.widths.now.items ++ w ∷ []) c.width_at.ensures
    ∙ ap (λ l. c.args.widths.now.items ++ l)
    (sym (met_var c.args.work.now.shader.body c.args.term.now c.in-Var.var c.in-Var.constant c.in-Var.size c.in-Var.cond c.args.bits c.args.view c.in-Var.is))

pub meet_term-returns-in-Lit-clause-met : goal.meet_term-returns-in-Lit-clause-met
meet_term-returns-in-Lit-clause-met t c =
    c.push.ensures.items
    ∙ ap (λ w. c.args.widths.now.items ++ w ∷ []) c.width_at.ensures
    ∙ ap (λ l. c.args.widths.now.items ++ l)
    (sym (met_lit c.args.work.now.shader.body c.args.term.now c.in-Lit.value c.in-Lit.boolean c.args.bits c.args.view c.in-Lit.is))

pub meet_term-returns-in-App-clause-left : goal.meet_term-returns-in-App-clause-left
meet_term-returns-in-App-clause-left t c =
    c.meet_terms.ensures.left
    ∙ ap (λ list. bits_behind (terms_of list) c.bits_left.result) c.as_slice.ensures
    ∙ ap (λ bits. bits_behind (terms_of c.in-App.args) bits) c.bits_left.ensures
    ∙ sym (bits_app c.args.term.now c.in-App.op c.in-App.size c.in-App.once c.in-App.args c.args.bits c.in-App.is)

pub meet_term-returns-in-App-clause-met : goal.meet_term-returns-in-App-clause-met
meet_term-returns-in-App-clause-met t c =
    let body = c.args.work.now.shader.body in
    let old = c.args.widths.now.items in
    let op = c.in-App.op in
    let bits = c.args.bits in
    let views = map (child c.as_slice-in-App.result.now) (swapped c.is_swapped.result c.sources_at.result.now) in
    let seen : views ≡ children body (is_swapped op bits) c.args.view =
    c.sources_at.ensures c.is_swapped.result c.as_slice-in-App.result.now
    ∙ ap (λ flag. children body flag (record { value = c.args.view.value; comps = c.as_slice-in-App.result.now })) c.is_swapped.ensures
    ∙ ap (λ comps. children body (is_swapped op bits) (record { value = c.args.view.value; comps = comps })) c.as_slice-in-App.ensures.value in
    c.meet_terms.ensures.met
    ∙ ap (λ l. l ++ met body (terms_of c.as_slice.result.now) c.bits_left.result views) c.push.ensures.items
    ∙ append_assoc old (c.width_at.result ∷ []) (met body (terms_of c.as_slice.result.now) c.bits_left.result views)
    ∙ ap (λ l. old ++ l)
    (ap (λ w. w ∷ met body (terms_of c.as_slice.result.now) c.bits_left.result views) c.width_at.ensures
    ∙ ap (λ list. width_at body c.args.view.value ∷ met body (terms_of list) c.bits_left.result views) c.as_slice.ensures
    ∙ ap (λ b. width_at body c.args.view.value ∷ met body (terms_of c.in-App.args) b views) c.bits_left.ensures
    ∙ ap (λ v. width_at body c.args.view.value ∷ met body (terms_of c.in-App.args) (bits_left op bits) v) seen
    ∙ sym (met_app body c.args.term.now op c.in-App.size c.in-App.once c.in-App.args bits c.args.view c.in-App.is))

pub meet_terms-meet_term-bits-requires : goal.meet_terms-meet_term-bits-requires
meet_terms-meet_term-bits-requires t c = (
  search (rules, the_lemmas, at_most),
  (let split = size_on c.args.terms.now c.loop-at.at c.index-terms-at.result c.loop-at-test.true c.index-terms-at.is in
      let room = c.loop-at.invariant.room in
      omega (arith, split, room)),
)

pub meet_terms-loop-at-preserved : goal.meet_terms-loop-at-preserved
meet_terms-loop-at-preserved t c =
    let body = c.args.work.now.shader.body in
    let list = c.args.terms.now in
    let item = c.index-terms-at.result in
    let views = map (child c.args.comps.now) (swapped c.args.flag c.args.srcs.now) in
    let before = c.loop-at.widths.items in
    let after = c.meet_term-bits.new.widths.items in
    let split = size_on list c.loop-at.at item c.loop-at-test.true c.index-terms-at.is in
    let room = c.loop-at.invariant.room in
    let long = ap length c.meet_term-bits.ensures.met ∙ length-append before (met body (terms_of (item ∷ [])) c.loop-at.bits (c.child_at-view.result ∷ [])) in
    let own = length-met body (terms_of (item ∷ [])) c.loop-at.bits (c.child_at-view.result ∷ []) in
    record {
      met =
          met_on body list c.loop-at.at item c.child_at-view.result c.loop-at.bits c.meet_term-bits.result views before after
          c.loop-at-test.true c.index-terms-at.is c.child_at-view.ensures c.meet_term-bits.ensures.left c.meet_term-bits.ensures.met
          ∙ c.loop-at.invariant.met;
      left =
          ap (bits_behind (terms_of (drop (c.loop-at.at + 1) list))) c.meet_term-bits.ensures.left
          ∙ sym (bits_behind-drop list c.loop-at.at item c.loop-at.bits c.loop-at-test.true c.index-terms-at.is)
          ∙ c.loop-at.invariant.left;
      room = omega (arith, split, room, long, own);
    }
