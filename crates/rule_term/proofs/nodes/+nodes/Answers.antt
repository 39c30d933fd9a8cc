use Rattle.std.proofs.Common.{rules, ◌≡◌, ap, ◌∙◌, arith, [], ◌∷◌}
use denote.Param.Weighed.{at_most}
use Rattle.rule_term.specs.declared.term.Term.{the_lemmas}
use Rattle.rule_term.specs.Terms.{terms_of}
use Rattle.rule_term.specs.Typings.{size_of}
use Rattle.rule_term.proofs.NodesLemmas.{size_of-app, size_of-drop}
use Rattle.rule_term.proofs.nodes.+nodes.Goals as goal

pub nodes_in-nodes_in_list-requires : goal.nodes_in-nodes_in_list-requires
nodes_in-nodes_in_list-requires t c =
    let e : size_of (terms_of c.as_slice.result.now) ≡ size_of (terms_of c.in-App.args) = ap (λ x. size_of (terms_of x)) c.as_slice.ensures in
    let f = ap (λ x. size_of (terms_of (x ∷ []))) c.in-App.is ∙ size_of-app c.in-App.op c.in-App.size c.in-App.once c.in-App.args in
    (search (rules, the_lemmas, at_most), omega arith)

pub nodes_in_list-nodes_in-count-requires : goal.nodes_in_list-nodes_in-count-requires
nodes_in_list-nodes_in-count-requires t c =
    let split = size_of-drop c.args.terms.now c.loop-term.term-index c.term-item.result c.loop-term-test.true c.term-item.is in
    let so_far = c.loop-term.invariant in
    (search (rules, the_lemmas, at_most), omega arith)
