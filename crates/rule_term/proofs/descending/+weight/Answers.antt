use Rattle.std.proofs.Common.{rules, ◌≡◌, ap, ◌∙◌, arith, [], ◌∷◌}
use denote.Param.Weighed.{at_most}
use Rattle.rule_term.specs.declared.term.Term.{the_lemmas}
use Rattle.rule_term.specs.Descending.{terms_weight}
use Rattle.rule_term.specs.Table.{op_weight}
use Rattle.rule_term.specs.Terms.{terms_of}
use Rattle.rule_term.proofs.DescendingLemmas.{weight-app, weight-drop}
use Rattle.rule_term.proofs.descending.+weight.Goals as goal

pub term_weight-terms_weight-inner-requires : goal.term_weight-terms_weight-inner-requires
term_weight-terms_weight-inner-requires t c =
    let weight = op_weight c.args.table.now in
    let e : terms_weight weight (terms_of c.as_slice.result.now) ≡ terms_weight weight (terms_of c.in-App.args) = ap (λ x. terms_weight weight (terms_of x)) c.as_slice.ensures in
    let f = ap (λ x. terms_weight weight (terms_of (x ∷ []))) c.in-App.is ∙ weight-app weight c.in-App.op c.in-App.size c.in-App.once c.in-App.args in
    (search (rules, the_lemmas, at_most), omega arith)

pub terms_weight-term_weight-sum-requires : goal.terms_weight-term_weight-sum-requires
terms_weight-term_weight-sum-requires t c =
    let weight = op_weight c.args.table.now in
    let split = weight-drop weight c.args.terms.now c.loop-term.term-index c.term-item.result c.loop-term-test.true c.term-item.is in
    let so_far = c.loop-term.invariant in
    (search (rules, the_lemmas, at_most), omega arith)
