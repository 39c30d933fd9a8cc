use Rattle.std.proofs.Common.{◌≡◌, rules, arith, to_z, of_z}
use Rattle.std.specs.Int.{w128}
use Rattle.rule_variants.proofs.CopyLemmas.{all_copied, copied_on, varied_app, varied_lit, varied_var}
use Rattle.rule_variants.proofs.copy.+varied.Goals as goal

pub varied_term-returns-in-Var : goal.varied_term-returns-in-Var
varied_term-returns-in-Var t c = varied_var c.args.term.now c.in-Var.var c.in-Var.constant c.in-Var.size c.in-Var.cond c.args.bits.now c.in-Var.is

pub varied_term-returns-in-Lit : goal.varied_term-returns-in-Lit
varied_term-returns-in-Lit t c =
    let same : to_z w128 (of_z w128 c.in-Lit.value) ≡ c.in-Lit.value = search rules in
    varied_lit c.args.term.now c.in-Lit.value (to_z w128 (of_z w128 c.in-Lit.value)) c.in-Lit.boolean c.args.bits.now c.in-Lit.is same

pub varied_term-returns-in_ok-copies-in-App : goal.varied_term-returns-in_ok-copies-in-App
varied_term-returns-in_ok-copies-in-App t c =
    varied_app c.args.term.now c.in-App.op c.in-App.size c.in-App.once c.in-App.args c.as_slice.result.now c.in_ok-copies-in-App.copies c.with_swapped.result
    c.is_swapped-swap.result c.args.bits.now c.bits_left.result c.varied_terms.new.bits
    c.in-App.is c.as_slice.ensures c.is_swapped-swap.ensures c.bits_left.ensures c.in_ok-copies-in-App.ensures c.with_swapped.ensures

pub varied_terms-loop-term-preserved : goal.varied_terms-loop-term-preserved
varied_terms-loop-term-preserved t c =
    copied_on c.args.terms.now c.args.bits.now c.loop-term.copies c.push.new.self c.loop-term.term-index c.term-item.result c.in_ok-copy.copy c.loop-term.bits c.varied_term.new.bits
    c.loop-term-test.true c.term-item.is c.in_ok-push.ensures.ok c.in_ok-copy.ensures c.loop-term.invariant

pub varied_terms-returns : goal.varied_terms-returns
varied_terms-returns t c =
    let past = c.loop-term-test.false in
    all_copied c.args.terms.now c.args.bits.now c.loop-term.copies c.loop-term.term-index c.loop-term.bits (omega (arith, past)) c.loop-term.invariant
