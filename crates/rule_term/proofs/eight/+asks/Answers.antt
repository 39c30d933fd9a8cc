use Rattle.std.proofs.Common.{rules, ◌≡◌, ◌∙◌, ◌+◌, sym, ap, true, false, drop}
use Rattle.std.specs.Prelude.{◌||◌}
use Rattle.std.specs.List.{list_any}
use Rattle.rule_term.specs.EightBit.{asks_eight}
use Rattle.rule_term.specs.Pieces.{pieces}
use Rattle.rule_term.specs.Terms.{terms_of}
use Rattle.rule_term.proofs.EightLemmas.{asks-drop}
use Rattle.rule_term.proofs.eight.+asks.Goals as goal

pub asks_eight_terms-returns-then-asks_eight_term : goal.asks_eight_terms-returns-then-asks_eight_term
asks_eight_terms-returns-then-asks_eight_term t c =
    let here : c.asks_eight_term.result ≡ true = search rules in
    let rest = list_any asks_eight (pieces (terms_of (drop (c.loop-term.term-index + 1) c.args.terms.now))) in
    sym (sym c.loop-term.invariant
    ∙ asks-drop c.args.terms.now c.loop-term.term-index c.term-item.result c.loop-term-test.true c.term-item.is
    ∙ ap (λ b. b || rest) (sym c.asks_eight_term.ensures ∙ here))

pub asks_eight_terms-loop-term-preserved : goal.asks_eight_terms-loop-term-preserved
asks_eight_terms-loop-term-preserved t c =
    let here : c.asks_eight_term.result ≡ false = search rules in
    let rest = list_any asks_eight (pieces (terms_of (drop (c.loop-term.term-index + 1) c.args.terms.now))) in
    sym (asks-drop c.args.terms.now c.loop-term.term-index c.term-item.result c.loop-term-test.true c.term-item.is
    ∙ ap (λ b. b || rest) (sym c.asks_eight_term.ensures ∙ here))
    ∙ c.loop-term.invariant
