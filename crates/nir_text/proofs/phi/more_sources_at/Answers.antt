use Rattle.std.proofs.Common.{◌≡◌, ◌-◌, ◌+◌, ◌∷◌, [], Err, refl, true, false, sym, ap, ◌∙◌, arith}
use Rattle.std.proofs.lemmas.Result.{err_from_is_err_and}
use Rattle.nir_text.specs.declared.fault.TextFault.TheVariants.{Expected}
use Rattle.nir_text.specs.Signs.{Sign, is_mark}
use Rattle.nir_text.specs.Reading.{here, next, mark_at, more_at}
use Rattle.nir_text.specs.Instrs.{source_at}
use Rattle.nir_text.specs.Table.{naming}
use Rattle.nir_text.specs.View.{point}
use Rattle.nir_text.proofs.Front.{with_front, one_and, goes_on, ends, is_done, stops}
use Rattle.nir_text.proofs.Items.{more-step, more-no_item, more-no_mark, more-done, more-end}
use Rattle.nir_text.proofs.phi.more_sources_at.Goals as goal

pub sources-init : goal.sources-init
sources-init c =
    let all : c.len-fuel.result - 0 ≡ c.len-fuel.result = omega arith in
    rw (c.in_ok-push.ensures.ok, c.new-sources.ensures, all) refl

pub returns-in_err-close : goal.returns-in_err-close
returns-in_err-close c =
    let p = err_from_is_err_and c.from_residual-in_err-close.result c.from_residual-in_err-close.ensures.1 in
    let l = c.sources in
    let b : is_mark 44 (here (point l.at)) ≡ false = ap (is_mark 44) (sym c.here.ensures) ∙ sym c.if-not-is_mark.ensures in
    rw (p.1, p.2, ← c.len-fuel.ensures, one_and c.args.first (more_at (λ k. source_at (naming c.args.names.now)) 1 c.len-fuel.result (point c.args.p.now)))
    (ends c.in_err-close.field-0.0 l.sources (mark_at 93 (point l.at)) (more_at (λ k. source_at (naming c.args.names.now)) (l._turn + 1) (c.len-fuel.result - l._turn) (point l.at)) (with_front (c.args.first ∷ []) (more_at (λ k. source_at (naming c.args.names.now)) 1 c.len-fuel.result (point c.args.p.now)))
    l.invariant (λ f e. more-no_mark (λ k. source_at (naming c.args.names.now)) (l._turn + 1) l._turn c.len-fuel.result (point l.at) f c.sources-test.true b e) c.in_err-close.ensures)

pub returns-then-not-is_mark : goal.returns-then-not-is_mark
returns-then-not-is_mark c =
    let l = c.sources in
    let b : is_mark 44 (here (point l.at)) ≡ false = ap (is_mark 44) (sym c.here.ensures) ∙ sym c.if-not-is_mark.ensures in
    rw (← c.len-fuel.ensures, one_and c.args.first (more_at (λ k. source_at (naming c.args.names.now)) 1 c.len-fuel.result (point c.args.p.now)))
    (is_done l.sources (point c.in_ok-close.close) (more_at (λ k. source_at (naming c.args.names.now)) (l._turn + 1) (c.len-fuel.result - l._turn) (point l.at)) (with_front (c.args.first ∷ []) (more_at (λ k. source_at (naming c.args.names.now)) 1 c.len-fuel.result (point c.args.p.now)))
    l.invariant (more-done (λ k. source_at (naming c.args.names.now)) (l._turn + 1) l._turn c.len-fuel.result (point l.at) (point c.in_ok-close.close) c.sources-test.true b c.in_ok-close.ensures))

pub returns-in_err-source : goal.returns-in_err-source
returns-in_err-source c =
    let p = err_from_is_err_and c.from_residual-in_err-source.result c.from_residual-in_err-source.ensures.1 in
    let l = c.sources in
    let b : is_mark 44 (here (point l.at)) ≡ true = ap (is_mark 44) (sym c.here.ensures) ∙ sym c.if-not-is_mark.ensures in
    rw (p.1, p.2, ← c.len-fuel.ensures, one_and c.args.first (more_at (λ k. source_at (naming c.args.names.now)) 1 c.len-fuel.result (point c.args.p.now)))
    (ends c.in_err-source.field-0.0 l.sources (source_at (naming c.args.names.now) (next (point l.at))) (more_at (λ k. source_at (naming c.args.names.now)) (l._turn + 1) (c.len-fuel.result - l._turn) (point l.at)) (with_front (c.args.first ∷ []) (more_at (λ k. source_at (naming c.args.names.now)) 1 c.len-fuel.result (point c.args.p.now)))
    l.invariant (λ f e. more-no_item (λ k. source_at (naming c.args.names.now)) (l._turn + 1) l._turn c.len-fuel.result (point l.at) f c.sources-test.true b e) (rw (← c.next.ensures) c.in_err-source.ensures))

pub sources-preserved : goal.sources-preserved
sources-preserved c =
    let l = c.sources in
    let x = c.in_ok-source in
    let b : is_mark 44 (here (point l.at)) ≡ true = ap (is_mark 44) (sym c.here.ensures) ∙ sym c.if-not-is_mark.ensures in
    rw c.in_ok-push-2.ensures.ok (goes_on l.sources x.source (more_at (λ k. source_at (naming c.args.names.now)) (l._turn + 1) (c.len-fuel.result - l._turn) (point l.at)) (more_at (λ k. source_at (naming c.args.names.now)) (l._turn + 1 + 1) (c.len-fuel.result - (l._turn + 1)) (point x.after)) (with_front (c.args.first ∷ []) (more_at (λ k. source_at (naming c.args.names.now)) 1 c.len-fuel.result (point c.args.p.now)))
    l.invariant (more-step (λ k. source_at (naming c.args.names.now)) (l._turn + 1) l._turn c.len-fuel.result (point l.at) (x.source, point x.after) c.sources-test.true b (rw (← c.next.ensures) x.ensures)))

pub returns : goal.returns
returns c =
    let l = c.sources in
    rw (← c.len-fuel.ensures, one_and c.args.first (more_at (λ k. source_at (naming c.args.names.now)) 1 c.len-fuel.result (point c.args.p.now)))
    (stops l.sources (more_at (λ k. source_at (naming c.args.names.now)) (l._turn + 1) (c.len-fuel.result - l._turn) (point l.at)) (with_front (c.args.first ∷ []) (more_at (λ k. source_at (naming c.args.names.now)) 1 c.len-fuel.result (point c.args.p.now))) _
    l.invariant (more-end (λ k. source_at (naming c.args.names.now)) (l._turn + 1) l._turn c.len-fuel.result (point l.at) c.sources-test.false)
    ∙ ap (λ (s : Sign). Err (Expected s.place)) (sym c.here-2.ensures))
