use Rattle.std.proofs.Common.{◌≡◌, ◌<◌, ◌-◌, ◌+◌, [], ◌∷◌, ◌++◌, Ok, sym, ap, ◌∙◌, arith}
use Rattle.std.proofs.lemmas.Result.{err_from_is_err_and}
use Rattle.nir_text.specs.Reading.{mark_at, commas_at, separated_at}
use Rattle.nir_text.specs.Instrs.{component_at}
use Rattle.nir_text.specs.View.{point}
use Rattle.nir_text.proofs.Front.{fails, goes_on, ends, is_done}
use Rattle.nir_text.proofs.Items.{commas-step, commas-no_mark, commas-no_item, commas-done, separated-none, separated-first, separated-no_first}
use Rattle.nir_text.proofs.consts.components_at.Goals as goal

pub returns-then-kind-eq0 : goal.returns-then-kind-eq0
returns-then-kind-eq0 c = separated-none (λ k. component_at c.args.kind) c.args.kind.count (point c.args.p.now) c.if-kind-eq0.true ∙ ap (λ items. Ok (items, point c.args.p.now)) (sym c.new-comps.ensures)

pub returns-in_err-first : goal.returns-in_err-first
returns-in_err-first c =
    let p = err_from_is_err_and c.from_residual.result c.from_residual.ensures.1 in
    let some : 0 < c.args.kind.count = omega arith in
    rw (p.1, p.2) (fails c.in_err-first.field-0.0 (component_at c.args.kind (point c.args.p.now)) (separated_at (λ k. component_at c.args.kind) c.args.kind.count (point c.args.p.now))
    (λ f e. separated-no_first (λ k. component_at c.args.kind) c.args.kind.count (point c.args.p.now) f some e) c.in_err-first.ensures)

pub comps-init : goal.comps-init
comps-init c =
    let some : 0 < c.args.kind.count = omega arith in
    let e : c.push.new.self ≡ c.in_ok-first.first ∷ [] = c.in_ok-push.ensures.ok ∙ ap (λ items. items ++ c.in_ok-first.first ∷ []) c.new-comps.ensures in
    rw e (separated-first (λ k. component_at c.args.kind) c.args.kind.count (point c.args.p.now) (c.in_ok-first.first, point c.in_ok-first.at) some c.in_ok-first.ensures)

pub returns-in_err-comma : goal.returns-in_err-comma
returns-in_err-comma c =
    let p = err_from_is_err_and c.from_residual-in_err-comma.result c.from_residual-in_err-comma.ensures.1 in
    let l = c.comps in
    rw (p.1, p.2) (ends c.in_err-comma.field-0.0 l.comps (mark_at 44 (point l.at)) (commas_at (λ k. component_at c.args.kind) l._k (c.args.kind.count - l._k) (point l.at)) (separated_at (λ k. component_at c.args.kind) c.args.kind.count (point c.args.p.now))
    l.invariant (λ f e. commas-no_mark (λ k. component_at c.args.kind) l._k l._k c.args.kind.count (point l.at) f c.comps-test.true e) c.in_err-comma.ensures)

pub returns-in_err-component : goal.returns-in_err-component
returns-in_err-component c =
    let p = err_from_is_err_and c.from_residual-in_err-component.result c.from_residual-in_err-component.ensures.1 in
    let l = c.comps in
    rw (p.1, p.2) (ends c.in_err-component.field-0.0 l.comps (component_at c.args.kind (point c.in_ok-comma.comma)) (commas_at (λ k. component_at c.args.kind) l._k (c.args.kind.count - l._k) (point l.at)) (separated_at (λ k. component_at c.args.kind) c.args.kind.count (point c.args.p.now))
    l.invariant (λ f e. commas-no_item (λ k. component_at c.args.kind) l._k l._k c.args.kind.count (point l.at) (point c.in_ok-comma.comma) f c.comps-test.true c.in_ok-comma.ensures e) c.in_err-component.ensures)

pub comps-preserved : goal.comps-preserved
comps-preserved c =
    let l = c.comps in
    let x = c.in_ok-component in
    rw c.in_ok-push-2.ensures.ok (goes_on l.comps x.component (commas_at (λ k. component_at c.args.kind) l._k (c.args.kind.count - l._k) (point l.at)) (commas_at (λ k. component_at c.args.kind) (l._k + 1) (c.args.kind.count - (l._k + 1)) (point x.after)) (separated_at (λ k. component_at c.args.kind) c.args.kind.count (point c.args.p.now))
    l.invariant (commas-step (λ k. component_at c.args.kind) l._k l._k c.args.kind.count (point l.at) (point c.in_ok-comma.comma) (x.component, point x.after) c.comps-test.true c.in_ok-comma.ensures x.ensures))

pub returns : goal.returns
returns c =
    let l = c.comps in
    is_done l.comps (point l.at) (commas_at (λ k. component_at c.args.kind) l._k (c.args.kind.count - l._k) (point l.at)) (separated_at (λ k. component_at c.args.kind) c.args.kind.count (point c.args.p.now))
    l.invariant (commas-done (λ k. component_at c.args.kind) l._k l._k c.args.kind.count (point l.at) c.comps-test.false)
