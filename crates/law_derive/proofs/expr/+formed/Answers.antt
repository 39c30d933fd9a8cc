use Rattle.std.proofs.Common.{rules, ◌≡◌, ◌∙◌, ◌+◌, sym, ap, true, false, drop}
use Rattle.std.specs.Prelude.{◌&&◌}
use Rattle.std.specs.List.{list_all}
use Rattle.rule_term.specs.Pieces.{pieces}
use Rattle.rule_term.specs.Terms.{terms_of}
use Rattle.law_derive.specs.Derivations.{piece_formed}
use Rattle.law_derive.proofs.TermLists.{formed-drop}
use Rattle.law_derive.proofs.expr.+formed.Goals as goal

pub are_formed-returns-then-not-is_formed : goal.are_formed-returns-then-not-is_formed
are_formed-returns-then-not-is_formed t c =
    let here : c.is_formed.result ≡ false = search rules in
    let rest = list_all piece_formed (pieces (terms_of (drop (c.loop-term.term-index + 1) c.args.terms.now))) in
    sym (sym c.loop-term.invariant.so_far
    ∙ formed-drop c.args.terms.now c.loop-term.term-index c.term-item.result c.loop-term-test.true c.term-item.is
    ∙ ap (λ b. b && rest) (sym c.is_formed.ensures ∙ here))

pub are_formed-loop-term-preserved : goal.are_formed-loop-term-preserved
are_formed-loop-term-preserved t c =
    let here : c.is_formed.result ≡ true = search rules in
    let rest = list_all piece_formed (pieces (terms_of (drop (c.loop-term.term-index + 1) c.args.terms.now))) in
    record {
      so_far = sym (formed-drop c.args.terms.now c.loop-term.term-index c.term-item.result c.loop-term-test.true c.term-item.is
          ∙ ap (λ b. b && rest) (sym c.is_formed.ensures ∙ here))
          ∙ c.loop-term.invariant.so_far;
    }
