use Rattle.std.proofs.Common.{◌≡◌, ◌-◌, ◌+◌, Err, true, false, sym, ap, ◌∙◌}
use Rattle.std.proofs.lemmas.Result.{err_from_is_err_and}
use Rattle.nir_text.specs.declared.fault.TextFault.TheVariants.{Expected}
use Rattle.nir_text.specs.Signs.{Sign}
use Rattle.nir_text.specs.Reading.{here}
use Rattle.nir_text.specs.Instrs.{instrs_at, instr_at, begins_instr}
use Rattle.nir_text.specs.Table.{naming}
use Rattle.nir_text.specs.View.{point}
use Rattle.nir_text.proofs.Front.{goes_on, ends, is_done, stops}
use Rattle.nir_text.proofs.Items.{instrs-step, instrs-no_instr, instrs-done, instrs-end}
use Rattle.nir_text.proofs.instr.instrs_at.Goals as goal

pub returns-then-not-begins_instr : goal.returns-then-not-begins_instr
returns-then-not-begins_instr c =
    let l = c.instrs in
    let b : begins_instr (here (point c.instrs.at)) ≡ false = cc in
    rw (← c.len-fuel.ensures) (is_done l.instrs (point l.at) (instrs_at (naming c.args.names.now) (c.len-fuel.result - l._turn) (point l.at)) (instrs_at (naming c.args.names.now) c.len-fuel.result (point c.args.p.now))
    l.invariant (instrs-done (naming c.args.names.now) l._turn c.len-fuel.result (point l.at) c.instrs-test.true b))

pub returns-in_err-instr : goal.returns-in_err-instr
returns-in_err-instr c =
    let p = err_from_is_err_and c.from_residual.result c.from_residual.ensures.1 in
    let l = c.instrs in
    let b : begins_instr (here (point c.instrs.at)) ≡ true = cc in
    rw (p.1, p.2, ← c.len-fuel.ensures) (ends c.in_err-instr.field-0.0 l.instrs (instr_at (naming c.args.names.now) (point l.at)) (instrs_at (naming c.args.names.now) (c.len-fuel.result - l._turn) (point l.at)) (instrs_at (naming c.args.names.now) c.len-fuel.result (point c.args.p.now))
    l.invariant (λ f e. instrs-no_instr (naming c.args.names.now) l._turn c.len-fuel.result (point l.at) f c.instrs-test.true b e) c.in_err-instr.ensures)

pub instrs-preserved : goal.instrs-preserved
instrs-preserved c =
    let l = c.instrs in
    let x = c.in_ok-instr in
    let b : begins_instr (here (point c.instrs.at)) ≡ true = cc in
    rw c.in_ok-push.ensures.ok (goes_on l.instrs x.instr (instrs_at (naming c.args.names.now) (c.len-fuel.result - l._turn) (point l.at)) (instrs_at (naming c.args.names.now) (c.len-fuel.result - (l._turn + 1)) (point x.after)) (instrs_at (naming c.args.names.now) c.len-fuel.result (point c.args.p.now))
    l.invariant (instrs-step (naming c.args.names.now) l._turn c.len-fuel.result (point l.at) (x.instr, point x.after) c.instrs-test.true b x.ensures))

pub returns : goal.returns
returns c =
    let l = c.instrs in
    rw (← c.len-fuel.ensures) (stops l.instrs (instrs_at (naming c.args.names.now) (c.len-fuel.result - l._turn) (point l.at)) (instrs_at (naming c.args.names.now) c.len-fuel.result (point c.args.p.now)) _
    l.invariant (instrs-end (naming c.args.names.now) l._turn c.len-fuel.result (point l.at) c.instrs-test.false)
    ∙ ap (λ (s : Sign). Err (Expected s.place)) (sym c.here-2.ensures))
