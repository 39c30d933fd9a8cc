use Rattle.std.proofs.Common.{◌≡◌, refl, ◌∙◌, sym, ap, None, Some, [], ◌∷◌, drop, length, arith, rules}
use Rattle.std.proofs.lemmas.List.{take_rest, length-drop}
use denote.Param.Weighed.{at_most}
use Rattle.rule_term.specs.declared.term.Term.{the_lemmas}
use Rattle.rule_term.specs.ReplaceLeast.{noted}
use Rattle.rule_term.specs.Terms.{terms_of}
use Rattle.rule_term.specs.Typings.{occurrences, size_of}
use Rattle.rule_term.proofs.NodesLemmas.{size_of-drop}
use Rattle.rule_term.proofs.ReplaceSteps.{noted-at, noted-on, size_of-at}
use Rattle.rule_term.proofs.search_sizes.+note.Goals as goal

pub note_term-note_terms-requires : goal.note_term-note_terms-requires
note_term-note_terms-requires t c = (
  search (rules, the_lemmas),
  (let whole = size_of-at c.args.term.now c.in-App.op c.in-App.size c.in-App.once c.in-App.args c.in-App.is in
      let same : size_of (terms_of c.as_slice.result.now) ≡ size_of (terms_of c.in-App.args) = ap (λ x. size_of (terms_of x)) c.as_slice.ensures in
      let enough = c.requires.enough in
      let long = ap length (take_rest c.args.widths.now 1) in
      let left = length-drop 1 c.args.widths.now in
      omega arith),
)

pub note_term-returns-in-App : goal.note_term-returns-in-App
note_term-returns-in-App t c =
    let widths = c.args.widths.now in
    let rest = take_rest widths 1 in
    let made : c.note_terms.result ≡ noted (occurrences (terms_of c.in-App.args) (drop 1 widths)) c.args.known = cc in
    made ∙ sym (noted-at c.args.term.now c.in-App.op c.in-App.size c.in-App.once c.in-App.args widths c.args.known c.in-App.is)

pub note_terms-note_term-requires : goal.note_terms-note_term-requires
note_terms-note_term-requires t c = (
  search (rules, the_lemmas, at_most),
  (let split = size_of-drop c.args.terms.now c.loop-term.term-index c.term-item.result c.loop-term-test.true c.term-item.is in
      let made = c.loop-term.invariant.nodes_made in
      let enough = c.requires.enough in
      let long = ap length (take_rest c.args.widths.now c.loop-term.nodes) in
      let left = length-drop c.loop-term.nodes c.args.widths.now in
      omega arith),
)

pub note_terms-returns-in-None : goal.note_terms-returns-in-None
note_terms-returns-in-None t c =
    let l = c.loop-term in
    let widths = c.args.widths.now in
    noted-on c.args.terms.now l.term-index l.nodes (size_of (terms_of (c.term-item.result ∷ []))) c.term-item.result widths l.known None _ c.loop-term-test.true c.term-item.is refl
    (c.in-None.ensures ∙ ap (λ x. noted (occurrences (terms_of (c.term-item.result ∷ [])) x) l.known) (take_rest widths l.nodes)) l.invariant.noted

pub note_terms-loop-term-preserved : goal.note_terms-loop-term-preserved
note_terms-loop-term-preserved t c =
    let l = c.loop-term in
    let widths = c.args.widths.now in
    let split = size_of-drop c.args.terms.now l.term-index c.term-item.result c.loop-term-test.true c.term-item.is in
    let made = l.invariant.nodes_made in
    let count = c.nodes_in-nodes.ensures.count in
    record {
      noted = noted-on c.args.terms.now l.term-index l.nodes c.nodes_in-nodes.result c.term-item.result widths l.known (Some c.in-Some.next) _ c.loop-term-test.true c.term-item.is count
          (c.in-Some.ensures ∙ ap (λ x. noted (occurrences (terms_of (c.term-item.result ∷ [])) x) l.known) (take_rest widths l.nodes)) l.invariant.noted;
      nodes_made = omega arith;
    }
