use Rattle.std.proofs.Common.{rules, ◌≡◌, ◌∙◌, ◌+◌, sym, ap, true, false, drop}
use Rattle.std.specs.Prelude.{◌||◌, ◌&&◌, nat_eq}
use Rattle.std.specs.List.{list_any}
use Rattle.rule_term.specs.Pieces.{pieces}
use Rattle.rule_term.specs.Terms.{terms_of}
use Rattle.law_derive.specs.Asking.{piece_asks}
use Rattle.law_derive.specs.Derivations.{is_cond}
use Rattle.law_derive.proofs.AskingLemmas.{asks-drop, at-app, at-lit, at-var}
use Rattle.law_derive.proofs.cond.+asks.Goals as goal

pub asks_in_terms-returns-then-asks_in : goal.asks_in_terms-returns-then-asks_in
asks_in_terms-returns-then-asks_in t c =
    let here : c.asks_in.result ≡ true = search rules in
    let rest = list_any (piece_asks c.args.cond c.args.var) (pieces (terms_of (drop (c.loop-term.term-index + 1) c.args.terms.now))) in
    sym (sym c.loop-term.invariant.so_far
    ∙ asks-drop c.args.cond c.args.var c.args.terms.now c.loop-term.term-index c.term-item.result c.loop-term-test.true c.term-item.is
    ∙ ap (λ b. b || rest) (sym c.asks_in.ensures ∙ here))

pub asks_in_terms-loop-term-preserved : goal.asks_in_terms-loop-term-preserved
asks_in_terms-loop-term-preserved t c =
    let here : c.asks_in.result ≡ false = search rules in
    let rest = list_any (piece_asks c.args.cond c.args.var) (pieces (terms_of (drop (c.loop-term.term-index + 1) c.args.terms.now))) in
    record {
      so_far = sym (asks-drop c.args.cond c.args.var c.args.terms.now c.loop-term.term-index c.term-item.result c.loop-term-test.true c.term-item.is
          ∙ ap (λ b. b || rest) (sym c.asks_in.ensures ∙ here))
          ∙ c.loop-term.invariant.so_far;
    }

pub asks_in-returns-then-own-var : goal.asks_in-returns-then-own-var
asks_in-returns-then-own-var t c =
    let v = c.in-Var in
    let other : nat_eq v.own c.args.var ≡ false = search rules in
    sym (at-var c.args.cond c.args.var c.args.term.now v.own v.constant v.size v.own_cond v.is ∙ ap (λ b. b && is_cond c.args.cond v.own_cond) other)

pub asks_in-returns-else-own-var : goal.asks_in-returns-else-own-var
asks_in-returns-else-own-var t c =
    let v = c.in-Var in
    let same : nat_eq v.own c.args.var ≡ true = search rules in
    c.is_cond.ensures
    ∙ sym (at-var c.args.cond c.args.var c.args.term.now v.own v.constant v.size v.own_cond v.is ∙ ap (λ b. b && is_cond c.args.cond v.own_cond) same)

pub asks_in-returns-in-Lit : goal.asks_in-returns-in-Lit
asks_in-returns-in-Lit t c = sym (at-lit c.args.cond c.args.var c.args.term.now c.in-Lit.value c.in-Lit.boolean c.in-Lit.is)

pub asks_in-returns-in-App : goal.asks_in-returns-in-App
asks_in-returns-in-App t c =
    let a = c.in-App in
    c.asks_in_terms.ensures
    ∙ ap (λ l. list_any (piece_asks c.args.cond c.args.var) (pieces (terms_of l))) c.as_slice.ensures
    ∙ sym (at-app c.args.cond c.args.var c.args.term.now a.op a.size a.once a.args a.is)
