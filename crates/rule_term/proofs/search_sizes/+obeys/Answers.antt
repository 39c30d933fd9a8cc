use Rattle.op_eval.specs.Calls.{sizes_fit}
use Rattle.std.proofs.Common.{◌≡◌, refl, ◌∙◌, ◌+◌, sym, ap, true, false, ◌&&◌, [], ◌∷◌, drop, length, arith, rules}
use Rattle.std.proofs.lemmas.List.{take_rest, length-drop}
use denote.Param.Weighed.{at_most}
use Rattle.rule_term.specs.declared.term.Term.{the_lemmas}
use Rattle.rule_term.specs.Terms.{Nil, terms_of}
use Rattle.rule_term.specs.Typings.{first_of, has_size, obeys, roots, size_of}
use Rattle.rule_term.proofs.NodesLemmas.{size_of-drop}
use Rattle.rule_term.proofs.ReadyLemmas.{some_node}
use Rattle.rule_term.proofs.ReplaceSteps.{obeys-at, obeys-drop, size_of-at}
use Rattle.rule_term.proofs.search_sizes.+obeys.Goals as goal

pub obeys_term-bounds-widths-0 : goal.obeys_term-bounds-widths-0
obeys_term-bounds-widths-0 t c =
    let some = some_node c.args.term.now Nil in
    let enough = c.requires.enough in
    omega arith

pub obeys_term-returns-then-not-sizes_fit : goal.obeys_term-returns-then-not-sizes_fit
obeys_term-returns-then-not-sizes_fit t c =
    let widths = c.args.widths.now in
    let rest = take_rest widths 1 in
    let fit : c.sizes_fit.result ≡ false = search rules in
    let fact : sizes_fit c.in-App.op (first_of widths) (roots (terms_of c.in-App.args) (drop 1 widths)) ≡ false = cc in
    sym (obeys-at c.args.term.now c.in-App.op c.in-App.size c.in-App.once c.in-App.args widths c.in-App.is ∙ ap (λ b. has_size c.in-App.size (first_of widths) && b && obeys (terms_of c.in-App.args) (drop 1 widths)) fact ∙ search rules)

pub obeys_term-obeys_terms-requires : goal.obeys_term-obeys_terms-requires
obeys_term-obeys_terms-requires t c = (
  search (rules, the_lemmas),
  (let whole = size_of-at c.args.term.now c.in-App.op c.in-App.size c.in-App.once c.in-App.args c.in-App.is in
      let same : size_of (terms_of c.as_slice-in-App.result.now) ≡ size_of (terms_of c.in-App.args) = ap (λ x. size_of (terms_of x)) c.as_slice-in-App.ensures in
      let enough = c.requires.enough in
      let long = ap length (take_rest c.args.widths.now 1) in
      let left = length-drop 1 c.args.widths.now in
      omega arith),
)

pub obeys_term-returns-else-not-sizes_fit : goal.obeys_term-returns-else-not-sizes_fit
obeys_term-returns-else-not-sizes_fit t c =
    let widths = c.args.widths.now in
    let rest = take_rest widths 1 in
    let has : has_size c.in-App.size (first_of widths) ≡ true = cc in
    let fit : sizes_fit c.in-App.op (first_of widths) (roots (terms_of c.in-App.args) (drop 1 widths)) ≡ true = cc in
    let made : c.obeys_terms.result ≡ obeys (terms_of c.in-App.args) (drop 1 widths) = cc in
    made
    ∙ sym (obeys-at c.args.term.now c.in-App.op c.in-App.size c.in-App.once c.in-App.args widths c.in-App.is
    ∙ ap (λ b. b && sizes_fit c.in-App.op (first_of widths) (roots (terms_of c.in-App.args) (drop 1 widths)) && obeys (terms_of c.in-App.args) (drop 1 widths)) has
    ∙ ap (λ b. b && obeys (terms_of c.in-App.args) (drop 1 widths)) fit)

pub obeys_terms-obeys_term-requires : goal.obeys_terms-obeys_term-requires
obeys_terms-obeys_term-requires t c = (
  search (rules, the_lemmas, at_most),
  (let split = size_of-drop c.args.terms.now c.loop-term.term-index c.term-item.result c.loop-term-test.true c.term-item.is in
      let made = c.loop-term.invariant.nodes_made in
      let enough = c.requires.enough in
      let long = ap length (take_rest c.args.widths.now c.loop-term.nodes) in
      let left = length-drop c.loop-term.nodes c.args.widths.now in
      omega arith),
)

pub obeys_terms-returns-then-not-obeys_term : goal.obeys_terms-returns-then-not-obeys_term
obeys_terms-returns-then-not-obeys_term t c =
    let l = c.loop-term in
    let widths = c.args.widths.now in
    let rest = take_rest widths l.nodes in
    let here : obeys (terms_of (c.term-item.result ∷ [])) (drop l.nodes widths) ≡ false = cc in
    let own = size_of (terms_of (c.term-item.result ∷ [])) in
    sym (sym l.invariant.obeyed
    ∙ obeys-drop c.args.terms.now l.term-index l.nodes own c.term-item.result widths c.loop-term-test.true c.term-item.is refl
    ∙ ap (λ b. b && obeys (terms_of (drop (l.term-index + 1) c.args.terms.now)) (drop (l.nodes + own) widths)) here)

pub obeys_terms-loop-term-preserved : goal.obeys_terms-loop-term-preserved
obeys_terms-loop-term-preserved t c =
    let l = c.loop-term in
    let widths = c.args.widths.now in
    let rest = take_rest widths l.nodes in
    let here : obeys (terms_of (c.term-item.result ∷ [])) (drop l.nodes widths) ≡ true = cc in
    let own = c.nodes_in-nodes.result in
    let count = c.nodes_in-nodes.ensures.count in
    let split = size_of-drop c.args.terms.now l.term-index c.term-item.result c.loop-term-test.true c.term-item.is in
    let made = l.invariant.nodes_made in
    record {
      obeyed = sym (obeys-drop c.args.terms.now l.term-index l.nodes own c.term-item.result widths c.loop-term-test.true c.term-item.is count
          ∙ ap (λ b. b && obeys (terms_of (drop (l.term-index + 1) c.args.terms.now)) (drop (l.nodes + own) widths)) here)
          ∙ l.invariant.obeyed;
      nodes_made = omega arith;
    }
