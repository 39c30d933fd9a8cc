use Rattle.std.proofs.Common.{rules, ◌≡◌, ◌∙◌, ◌+◌, ◌&&◌, sym, ap, true, false, drop}
use Rattle.std.specs.List.{list_all}
use Rattle.rule_term.specs.EightBit.{eight_piece}
use Rattle.rule_term.specs.Pieces.{pieces}
use Rattle.rule_term.specs.Terms.{terms_of}
use Rattle.rule_term.proofs.EightLemmas.{eight-drop}
use Rattle.rule_term.proofs.eight.+eight.Goals as goal

pub eight_terms-returns-then-not-eight_term : goal.eight_terms-returns-then-not-eight_term
eight_terms-returns-then-not-eight_term t c =
    let here : c.eight_term.result ≡ false = search rules in
    let rest = list_all eight_piece (pieces (terms_of (drop (c.loop-term.term-index + 1) c.args.terms.now))) in
    sym (sym c.loop-term.invariant
    ∙ eight-drop c.args.terms.now c.loop-term.term-index c.term-item.result c.loop-term-test.true c.term-item.is
    ∙ ap (λ b. b && rest) (sym c.eight_term.ensures ∙ here))

pub eight_terms-loop-term-preserved : goal.eight_terms-loop-term-preserved
eight_terms-loop-term-preserved t c =
    let here : c.eight_term.result ≡ true = search rules in
    let rest = list_all eight_piece (pieces (terms_of (drop (c.loop-term.term-index + 1) c.args.terms.now))) in
    sym (eight-drop c.args.terms.now c.loop-term.term-index c.term-item.result c.loop-term-test.true c.term-item.is
    ∙ ap (λ b. b && rest) (sym c.eight_term.ensures ∙ here))
    ∙ c.loop-term.invariant
