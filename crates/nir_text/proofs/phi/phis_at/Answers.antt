use Rattle.std.proofs.Common.{◌≡◌, ◌-◌, ◌+◌, Err, true, false, sym, ap, ◌∙◌}
use Rattle.std.proofs.lemmas.Result.{err_from_is_err_and}
use Rattle.nir_text.specs.declared.fault.TextFault.TheVariants.{Expected}
use Rattle.nir_text.specs.Signs.{Sign}
use Rattle.nir_text.specs.Instrs.{phis_at, phi_at, begins_phi}
use Rattle.nir_text.specs.Table.{naming}
use Rattle.nir_text.specs.View.{point}
use Rattle.nir_text.proofs.Front.{goes_on, ends, is_done, stops}
use Rattle.nir_text.proofs.Items.{phis-step, phis-no_phi, phis-done, phis-end}
use Rattle.nir_text.proofs.phi.phis_at.Goals as goal

pub returns-then-not-begins_phi : goal.returns-then-not-begins_phi
returns-then-not-begins_phi c =
    let l = c.phis in
    let b : begins_phi ((point c.phis.at).rest) ≡ false = cc in
    rw (← c.len-fuel.ensures) (is_done l.phis (point l.at) (phis_at (naming c.args.names.now) (c.len-fuel.result - l._turn) (point l.at)) (phis_at (naming c.args.names.now) c.len-fuel.result (point c.args.p.now))
    l.invariant (phis-done (naming c.args.names.now) l._turn c.len-fuel.result (point l.at) c.phis-test.true b))

pub returns-in_err-phi : goal.returns-in_err-phi
returns-in_err-phi c =
    let p = err_from_is_err_and c.from_residual.result c.from_residual.ensures.1 in
    let l = c.phis in
    let b : begins_phi ((point c.phis.at).rest) ≡ true = cc in
    rw (p.1, p.2, ← c.len-fuel.ensures) (ends c.in_err-phi.field-0.0 l.phis (phi_at (naming c.args.names.now) (point l.at)) (phis_at (naming c.args.names.now) (c.len-fuel.result - l._turn) (point l.at)) (phis_at (naming c.args.names.now) c.len-fuel.result (point c.args.p.now))
    l.invariant (λ f e. phis-no_phi (naming c.args.names.now) l._turn c.len-fuel.result (point l.at) f c.phis-test.true b e) c.in_err-phi.ensures)

pub phis-preserved : goal.phis-preserved
phis-preserved c =
    let l = c.phis in
    let x = c.in_ok-phi in
    let b : begins_phi ((point c.phis.at).rest) ≡ true = cc in
    rw c.in_ok-push.ensures.ok (goes_on l.phis x.phi (phis_at (naming c.args.names.now) (c.len-fuel.result - l._turn) (point l.at)) (phis_at (naming c.args.names.now) (c.len-fuel.result - (l._turn + 1)) (point x.after)) (phis_at (naming c.args.names.now) c.len-fuel.result (point c.args.p.now))
    l.invariant (phis-step (naming c.args.names.now) l._turn c.len-fuel.result (point l.at) (x.phi, point x.after) c.phis-test.true b x.ensures))

pub returns : goal.returns
returns c =
    let l = c.phis in
    rw (← c.len-fuel.ensures) (stops l.phis (phis_at (naming c.args.names.now) (c.len-fuel.result - l._turn) (point l.at)) (phis_at (naming c.args.names.now) c.len-fuel.result (point c.args.p.now)) _
    l.invariant (phis-end (naming c.args.names.now) l._turn c.len-fuel.result (point l.at) c.phis-test.false)
    ∙ ap (λ (s : Sign). Err (Expected s.place)) (sym c.here.ensures))
