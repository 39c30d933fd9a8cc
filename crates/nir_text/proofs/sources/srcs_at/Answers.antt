use Rattle.std.proofs.Common.{◌≡◌, ◌<◌, ◌-◌, ◌+◌, [], ◌∷◌, ◌++◌, Ok, sym, ap, ◌∙◌, arith}
use Rattle.std.proofs.lemmas.Result.{err_from_is_err_and}
use Rattle.nir_text.specs.Reading.{mark_at, commas_at, separated_at}
use Rattle.nir_text.specs.Instrs.{src_at}
use Rattle.nir_text.specs.Table.{naming}
use Rattle.nir_text.specs.View.{point}
use Rattle.nir_text.proofs.Front.{fails, goes_on, ends, is_done}
use Rattle.nir_text.proofs.Items.{commas-step, commas-no_mark, commas-no_item, commas-done, separated-none, separated-first, separated-no_first}
use Rattle.nir_text.proofs.sources.srcs_at.Goals as goal

pub returns-then-count-eq0 : goal.returns-then-count-eq0
returns-then-count-eq0 c = separated-none (λ k. src_at (naming c.args.names.now)) c.args.count (point c.args.p.now) c.if-count-eq0.true ∙ ap (λ items. Ok (items, point c.args.p.now)) (sym c.new-srcs.ensures)

pub returns-in_err-first : goal.returns-in_err-first
returns-in_err-first c =
    let p = err_from_is_err_and c.from_residual.result c.from_residual.ensures.1 in
    let some : 0 < c.args.count = omega arith in
    rw (p.1, p.2) (fails c.in_err-first.field-0.0 (src_at (naming c.args.names.now) (point c.args.p.now)) (separated_at (λ k. src_at (naming c.args.names.now)) c.args.count (point c.args.p.now))
    (λ f e. separated-no_first (λ k. src_at (naming c.args.names.now)) c.args.count (point c.args.p.now) f some e) c.in_err-first.ensures)

pub srcs-init : goal.srcs-init
srcs-init c =
    let some : 0 < c.args.count = omega arith in
    let e : c.push.new.self ≡ c.in_ok-first.first ∷ [] = c.in_ok-push.ensures.ok ∙ ap (λ items. items ++ c.in_ok-first.first ∷ []) c.new-srcs.ensures in
    rw e (separated-first (λ k. src_at (naming c.args.names.now)) c.args.count (point c.args.p.now) (c.in_ok-first.first, point c.in_ok-first.at) some c.in_ok-first.ensures)

pub returns-in_err-comma : goal.returns-in_err-comma
returns-in_err-comma c =
    let p = err_from_is_err_and c.from_residual-in_err-comma.result c.from_residual-in_err-comma.ensures.1 in
    let l = c.srcs in
    rw (p.1, p.2) (ends c.in_err-comma.field-0.0 l.srcs (mark_at 44 (point l.at)) (commas_at (λ k. src_at (naming c.args.names.now)) l._k (c.args.count - l._k) (point l.at)) (separated_at (λ k. src_at (naming c.args.names.now)) c.args.count (point c.args.p.now))
    l.invariant (λ f e. commas-no_mark (λ k. src_at (naming c.args.names.now)) l._k l._k c.args.count (point l.at) f c.srcs-test.true e) c.in_err-comma.ensures)

pub returns-in_err-src : goal.returns-in_err-src
returns-in_err-src c =
    let p = err_from_is_err_and c.from_residual-in_err-src.result c.from_residual-in_err-src.ensures.1 in
    let l = c.srcs in
    rw (p.1, p.2) (ends c.in_err-src.field-0.0 l.srcs (src_at (naming c.args.names.now) (point c.in_ok-comma.comma)) (commas_at (λ k. src_at (naming c.args.names.now)) l._k (c.args.count - l._k) (point l.at)) (separated_at (λ k. src_at (naming c.args.names.now)) c.args.count (point c.args.p.now))
    l.invariant (λ f e. commas-no_item (λ k. src_at (naming c.args.names.now)) l._k l._k c.args.count (point l.at) (point c.in_ok-comma.comma) f c.srcs-test.true c.in_ok-comma.ensures e) c.in_err-src.ensures)

pub srcs-preserved : goal.srcs-preserved
srcs-preserved c =
    let l = c.srcs in
    let x = c.in_ok-src in
    rw c.in_ok-push-2.ensures.ok (goes_on l.srcs x.src (commas_at (λ k. src_at (naming c.args.names.now)) l._k (c.args.count - l._k) (point l.at)) (commas_at (λ k. src_at (naming c.args.names.now)) (l._k + 1) (c.args.count - (l._k + 1)) (point x.after)) (separated_at (λ k. src_at (naming c.args.names.now)) c.args.count (point c.args.p.now))
    l.invariant (commas-step (λ k. src_at (naming c.args.names.now)) l._k l._k c.args.count (point l.at) (point c.in_ok-comma.comma) (x.src, point x.after) c.srcs-test.true c.in_ok-comma.ensures x.ensures))

pub returns : goal.returns
returns c =
    let l = c.srcs in
    is_done l.srcs (point l.at) (commas_at (λ k. src_at (naming c.args.names.now)) l._k (c.args.count - l._k) (point l.at)) (separated_at (λ k. src_at (naming c.args.names.now)) c.args.count (point c.args.p.now))
    l.invariant (commas-done (λ k. src_at (naming c.args.names.now)) l._k l._k c.args.count (point l.at) c.srcs-test.false)
