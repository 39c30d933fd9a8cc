use Rattle.std.proofs.Common.{rules, ◌≡◌, ◌≤◌, ◌∙◌, ◌+◌, sym, ap, true, false, drop, length, arith}
use Rattle.std.specs.Prelude.{◌&&◌}
use Rattle.rule_term.specs.ReplaceLeast.{knows}
use Rattle.rule_term.specs.Terms.{terms_of}
use Rattle.law_derive.specs.ExprSizes.{settled}
use Rattle.law_derive.proofs.TermLists.{settled-drop, settled-past}
use Rattle.law_derive.proofs.sizes.+settled.Goals as goal

pub are_terms_settled-returns-then-not-is_term_settled : goal.are_terms_settled-returns-then-not-is_term_settled
are_terms_settled-returns-then-not-is_term_settled t c =
    let here : c.is_term_settled.result ≡ false = search rules in
    let fit = knows c.args.known.now in
    let rest = settled fit (terms_of (drop (c.loop-term.term-index + 1) c.args.terms.now)) in
    sym (sym c.loop-term.invariant.so_far
    ∙ settled-drop fit c.args.terms.now c.loop-term.term-index c.term-item.result c.loop-term-test.true c.term-item.is
    ∙ ap (λ b. b && rest) (sym c.is_term_settled.ensures ∙ here))

pub are_terms_settled-loop-term-preserved : goal.are_terms_settled-loop-term-preserved
are_terms_settled-loop-term-preserved t c =
    let here : c.is_term_settled.result ≡ true = search rules in
    let fit = knows c.args.known.now in
    let rest = settled fit (terms_of (drop (c.loop-term.term-index + 1) c.args.terms.now)) in
    record {
      so_far = sym (settled-drop fit c.args.terms.now c.loop-term.term-index c.term-item.result c.loop-term-test.true c.term-item.is
          ∙ ap (λ b. b && rest) (sym c.is_term_settled.ensures ∙ here))
          ∙ c.loop-term.invariant.so_far;
    }

pub are_terms_settled-returns : goal.are_terms_settled-returns
are_terms_settled-returns t c =
    let past : length c.args.terms.now ≤ c.loop-term.term-index = grind arith in
    sym (settled-past (knows c.args.known.now) c.args.terms.now c.loop-term.term-index past) ∙ c.loop-term.invariant.so_far
