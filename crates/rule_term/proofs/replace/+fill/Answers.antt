use Rattle.std.proofs.Common.{◌≡◌, ◌∙◌, ◌≤◌, ◌+◌, ◌++◌, [], ◌∷◌, sym, ap, length, map, drop, append_assoc, arith, rules}
use Rattle.std.proofs.lemmas.List.{append-nil, length-append}
use denote.Param.Weighed.{at_most}
use Rattle.nir_ops.specs.Opcodes.{op_info}
use Rattle.std.specs.Option.{unwrap_or}
use Rattle.nir_ops.specs.declared.width.Width.TheVariants.{W1}
use Rattle.op_eval.specs.Calls.{size_at}
use Rattle.rule_term.specs.declared.term.Term.{the_lemmas}
use Rattle.rule_term.specs.ReplaceLeast.{knows, least}
use Rattle.rule_term.specs.Terms.{Nil, terms_of}
use Rattle.rule_term.specs.Typings.{first_of, size_of}
use Rattle.rule_term.proofs.NodesLemmas.{size_of-drop}
use Rattle.rule_term.proofs.ReadyLemmas.{some_node}
use Rattle.rule_term.proofs.ReplaceSteps.{size_of-at}
use Rattle.rule_term.proofs.ReplaceRoots.{least-drop, least-lit, least-var, least_made, least_past, length-least}
use Rattle.rule_term.proofs.replace.+fill.Goals as goal

pub fill_term-push-requires : goal.fill_term-push-requires
fill_term-push-requires t c =
    let some = some_node c.args.term.now Nil in
    let room = c.requires.room in
    omega arith

pub fill_term-fill_terms-requires : goal.fill_term-fill_terms-requires
fill_term-fill_terms-requires t c = (
  search (rules, the_lemmas),
  (let whole = size_of-at c.args.term.now c.in-App.op c.in-App.size c.in-App.once c.in-App.args c.in-App.is in
      let same : size_of (terms_of c.as_slice-in-App.result.now) ≡ size_of (terms_of c.in-App.args) = ap (λ x. size_of (terms_of x)) c.as_slice-in-App.ensures in
      let room = c.requires.room in
      let pushed = ap length c.push.ensures.items ∙ length-append c.args.widths.now.items (c.args.width ∷ []) in
      omega arith),
)

pub fill_term-returns-in-Var : goal.fill_term-returns-in-Var
fill_term-returns-in-Var t c =
    c.push.ensures.items ∙ ap (λ l. c.args.widths.now.items ++ l) (sym (least-var (knows c.args.known.now) c.args.term.now c.in-Var.var c.in-Var.constant c.in-Var.size c.in-Var.cond c.args.width c.in-Var.is))

pub fill_term-returns-in-Lit : goal.fill_term-returns-in-Lit
fill_term-returns-in-Lit t c =
    c.push.ensures.items ∙ ap (λ l. c.args.widths.now.items ++ l) (sym (least-lit (knows c.args.known.now) c.args.term.now c.in-Lit.value c.in-Lit.boolean c.args.width c.in-Lit.is))

pub fill_term-returns-in-App : goal.fill_term-returns-in-App
fill_term-returns-in-App t c =
    let fit = knows c.args.known.now in
    let made = least fit (terms_of c.as_slice-in-App.result.now) (map (λ input. size_at input.kind.size c.unwrap_or-free.result) c.as_slice-in-App-2.result.now) in
    let inputs : c.as_slice-in-App-2.result.now ≡ (op_info c.in-App.op).inputs = c.as_slice-in-App-2.ensures.value ∙ ap (λ row. row.inputs) c.info-row.ensures in
    c.fill_terms.ensures
    ∙ ap (λ l. l ++ made) c.push.ensures.items
    ∙ append_assoc c.args.widths.now.items (c.args.width ∷ []) made
    ∙ ap (λ l. c.args.widths.now.items ++ l)
    (least_made fit c.args.term.now c.in-App.op c.in-App.size c.in-App.once c.in-App.args c.as_slice.result.now c.as_slice-in-App.result.now c.as_slice-in-App-2.result.now c.args.width c.unwrap_or-free.result c.usable-set.result
    c.in-App.is c.as_slice.ensures c.as_slice-in-App.ensures inputs c.usable-set.ensures (c.unwrap_or-free.ensures ∙ ap (λ o. unwrap_or o W1) c.unsized_for.ensures))

pub fill_terms-fill_term-requires : goal.fill_terms-fill_term-requires
fill_terms-fill_term-requires t c = (
  search (rules, the_lemmas, at_most),
  (let split = size_of-drop c.args.terms.now c.loop-at.at c.index-terms-at.result c.loop-at-test.true c.index-terms-at.is in
      let room = c.loop-at.invariant.room in
      omega arith),
)

pub fill_terms-loop-at-preserved : goal.fill_terms-loop-at-preserved
fill_terms-loop-at-preserved t c =
    let l = c.loop-at in
    let fit = knows c.args.known.now in
    let sizes = map (λ input. size_at input.kind.size c.args.free) c.args.inputs.now in
    let term = c.index-terms-at.result in
    let within = c.loop-at-test.true in
    let split = size_of-drop c.args.terms.now l.at term within c.index-terms-at.is in
    let room = l.invariant.room in
    let wide : c.size_at-width.result ≡ first_of (drop l.at sizes) = c.size_at-width.ensures ∙ c.demanded.ensures c.args.free in
    let later = least fit (terms_of (drop (l.at + 1) c.args.terms.now)) (drop (l.at + 1) sizes) in
    let here : c.fill_term.new.widths.items ≡ l.widths.items ++ least fit (terms_of (term ∷ [])) (first_of (drop l.at sizes) ∷ []) =
    c.fill_term.ensures ∙ ap (λ w. l.widths.items ++ least fit (terms_of (term ∷ [])) (w ∷ [])) wide in
    let long = ap length here ∙ length-append l.widths.items (least fit (terms_of (term ∷ [])) (first_of (drop l.at sizes) ∷ [])) in
    let own = length-least fit (terms_of (term ∷ [])) (first_of (drop l.at sizes) ∷ []) in
    record {
      filled = ap (λ x. x ++ later) here
          ∙ append_assoc l.widths.items (least fit (terms_of (term ∷ [])) (first_of (drop l.at sizes) ∷ [])) later
          ∙ ap (λ x. l.widths.items ++ x) (sym (least-drop fit c.args.terms.now l.at term sizes within c.index-terms-at.is))
          ∙ l.invariant.filled;
      room = omega (arith, long, own, split, room);
    }

pub fill_terms-returns : goal.fill_terms-returns
fill_terms-returns t c =
    let past : length c.args.terms.now ≤ c.loop-at.at = grind arith in
    let sizes = map (λ input. size_at input.kind.size c.args.free) c.args.inputs.now in
    sym (append-nil c.loop-at.widths.items)
    ∙ ap (λ l. c.loop-at.widths.items ++ l) (sym (least_past (knows c.args.known.now) c.args.terms.now c.loop-at.at (drop c.loop-at.at sizes) past))
    ∙ c.loop-at.invariant.filled
