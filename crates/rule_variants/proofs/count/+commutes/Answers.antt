use Rattle.std.proofs.Common.{arith, ◌≡◌, ◌+◌, ◌-◌, ◌∙◌, ap, sym, true, false, if◌then◌else◌}
use Rattle.rule_term.specs.Terms.{Nil, before, before-var, before-lit, before-app, terms_of}
use Rattle.rule_term.specs.Variants.{commutes, is_commutative}
use Rattle.rule_variants.proofs.CommuteLemmas.{commutes-drop}
use Rattle.rule_variants.proofs.count.+commutes.Goals as goal

pub without_term-returns-then-is_commutative : goal.without_term-returns-then-is_commutative
without_term-returns-then-is_commutative t c =
    let is : is_commutative c.in-App.op ≡ true = sym c.is_commutative.ensures ∙ c.if-is_commutative.true in
    let count : commutes (before c.args.term.now Nil) ≡ 1 + commutes (terms_of c.in-App.args) + 0 =
    ap (λ t. commutes (before t Nil)) c.in-App.is ∙ ap commutes (before-app c.in-App.op c.in-App.size c.in-App.once c.in-App.args Nil)
    ∙ ap (λ b. (if b then 1 else 0) + commutes (terms_of c.in-App.args) + 0) is in
    let inner = c.without_terms.ensures ∙ ap (λ list. c.saturating_sub.result - commutes (terms_of list)) c.as_slice.ensures in
    let less = c.saturating_sub.ensures in
    omega (arith, count, inner, less)

pub without_term-returns-else-is_commutative : goal.without_term-returns-else-is_commutative
without_term-returns-else-is_commutative t c =
    let is : is_commutative c.in-App.op ≡ false = sym c.is_commutative.ensures ∙ c.if-is_commutative.false in
    let count : commutes (before c.args.term.now Nil) ≡ 0 + commutes (terms_of c.in-App.args) + 0 =
    ap (λ t. commutes (before t Nil)) c.in-App.is ∙ ap commutes (before-app c.in-App.op c.in-App.size c.in-App.once c.in-App.args Nil)
    ∙ ap (λ b. (if b then 1 else 0) + commutes (terms_of c.in-App.args) + 0) is in
    let inner = c.without_terms-in-App.ensures ∙ ap (λ list. c.args.left - commutes (terms_of list)) c.as_slice-in-App.ensures in
    omega (arith, count, inner)

pub without_term-returns-in-Var : goal.without_term-returns-in-Var
without_term-returns-in-Var t c =
    let count : commutes (before c.args.term.now Nil) ≡ 0 =
    ap (λ t. commutes (before t Nil)) c.in-Var.is ∙ ap commutes (before-var c.in-Var.var c.in-Var.constant c.in-Var.size c.in-Var.cond Nil) in
    omega (arith, count)

pub without_term-returns-in-Lit : goal.without_term-returns-in-Lit
without_term-returns-in-Lit t c =
    let count : commutes (before c.args.term.now Nil) ≡ 0 =
    ap (λ t. commutes (before t Nil)) c.in-Lit.is ∙ ap commutes (before-lit c.in-Lit.value c.in-Lit.boolean Nil) in
    omega (arith, count)

pub without_terms-loop-term-preserved : goal.without_terms-loop-term-preserved
without_terms-loop-term-preserved t c =
    let split = commutes-drop c.args.terms.now c.loop-term.term-index c.term-item.result c.loop-term-test.true c.term-item.is in
    let here = c.without_term-left.ensures in
    let all = c.loop-term.invariant in
    omega (arith, split, here, all)
