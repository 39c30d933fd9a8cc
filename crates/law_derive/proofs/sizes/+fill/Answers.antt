use Rattle.std.proofs.Common.{◌≡◌, ◌≤◌, ◌∙◌, ◌++◌, [], ◌∷◌, sym, ap, length, map, drop, append_assoc, arith}
use Rattle.std.proofs.lemmas.List.{append-nil}
use Rattle.std.specs.Option.{unwrap_or}
use Rattle.nir_ops.specs.Opcodes.{op_info}
use Rattle.nir_ops.specs.declared.width.Width.TheVariants.{W1}
use Rattle.op_eval.specs.Calls.{size_at}
use Rattle.rule_term.specs.ReplaceLeast.{knows, least}
use Rattle.rule_term.specs.Terms.{terms_of}
use Rattle.rule_term.proofs.ReplaceRoots.{least-lit, least-var, least_made, least_past}
use Rattle.law_derive.proofs.TermLists.{fill_on}
use Rattle.law_derive.proofs.sizes.+fill.Goals as goal

pub fill_term-returns-in-Var : goal.fill_term-returns-in-Var
fill_term-returns-in-Var t c =
    c.in_ok-push.ensures.ok ∙ ap (λ l. c.args.widths.now ++ l) (sym (least-var (knows c.args.known.now) c.args.term.now c.in-Var.var c.in-Var.constant c.in-Var.size c.in-Var.cond c.args.width c.in-Var.is))

pub fill_term-returns-in-Lit : goal.fill_term-returns-in-Lit
fill_term-returns-in-Lit t c =
    c.in_ok-push.ensures.ok ∙ ap (λ l. c.args.widths.now ++ l) (sym (least-lit (knows c.args.known.now) c.args.term.now c.in-Lit.value c.in-Lit.boolean c.args.width c.in-Lit.is))

pub fill_term-returns-in_ok-fill_terms-in-App : goal.fill_term-returns-in_ok-fill_terms-in-App
fill_term-returns-in_ok-fill_terms-in-App t c =
    let fit = knows c.args.known.now in
    let made = least fit (terms_of c.as_slice-in-App.result.now) (map (λ input. size_at input.kind.size c.unwrap_or-free.result) c.as_slice-in-App-2.result.now) in
    let inputs : c.as_slice-in-App-2.result.now ≡ (op_info c.in-App.op).inputs = c.as_slice-in-App-2.ensures.value ∙ ap (λ row. row.inputs) c.info-row.ensures in
    c.in_ok-fill_terms-in-App.ensures
    ∙ ap (λ l. l ++ made) c.in_ok-push.ensures.ok
    ∙ append_assoc c.args.widths.now (c.args.width ∷ []) made
    ∙ ap (λ l. c.args.widths.now ++ l)
    (least_made fit c.args.term.now c.in-App.op c.in-App.size c.in-App.once c.in-App.args c.as_slice.result.now c.as_slice-in-App.result.now c.as_slice-in-App-2.result.now c.args.width c.unwrap_or-free.result c.usable-set.result
    c.in-App.is c.as_slice.ensures c.as_slice-in-App.ensures inputs c.usable-set.ensures (c.unwrap_or-free.ensures ∙ ap (λ o. unwrap_or o W1) c.unsized_for.ensures))

pub fill_terms-loop-at-preserved : goal.fill_terms-loop-at-preserved
fill_terms-loop-at-preserved t c =
    let l = c.loop-at in
    let sizes = map (λ input. size_at input.kind.size c.args.free) c.args.inputs.now in
    record {
      so_far = fill_on (knows c.args.known.now) c.args.terms.now l.at c.index-terms-at.result sizes c.size_at-width.result l.widths c.fill_term.new.widths _ c.loop-at-test.true c.index-terms-at.is
          (c.size_at-width.ensures ∙ c.demanded.ensures c.args.free) c.in_ok-fill_term.ensures l.invariant.so_far;
    }

pub fill_terms-returns : goal.fill_terms-returns
fill_terms-returns t c =
    let past : length c.args.terms.now ≤ c.loop-at.at = grind arith in
    let sizes = map (λ input. size_at input.kind.size c.args.free) c.args.inputs.now in
    sym (append-nil c.loop-at.widths)
    ∙ ap (λ l. c.loop-at.widths ++ l) (sym (least_past (knows c.args.known.now) c.args.terms.now c.loop-at.at (drop c.loop-at.at sizes) past))
    ∙ c.loop-at.invariant.so_far
