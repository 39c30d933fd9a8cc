use Rattle.std.proofs.Common.{◌≡◌, ◌∙◌, ◌≤◌, sym, ap, length, arith, rules, to_z-of_z}
use Rattle.std.specs.Int.{w128}
use Rattle.nir_ops.specs.Opcodes.{op_info}
use Rattle.op_eval.specs.Calls.{source_widths}
use Rattle.rule_term.specs.ReplaceLeast.{knows, set_of}
use Rattle.rule_term.specs.Typings.{literal_fits}
use Rattle.rule_term.proofs.ReplaceRoots.{asked_at, can-lit, can-var, narrow_step, none_past, result_sizes, set_of-same}
use Rattle.rule_term.proofs.width_set.+sizes.Goals as goal

pub sizes_of_term-returns-in-Var : goal.sizes_of_term-returns-in-Var
sizes_of_term-returns-in-Var t c =
    c.sizes_of_var.ensures ∙ set_of-same _ _ (λ width. sym (can-var (knows c.args.known.now) c.args.term.now c.in-Var.var c.in-Var.constant c.in-Var.size c.in-Var.cond width c.in-Var.is))

pub sizes_of_term-returns-in-Lit : goal.sizes_of_term-returns-in-Lit
sizes_of_term-returns-in-Lit t c =
    c.of_literal.ensures
    ∙ ap (λ v. set_of (literal_fits v c.in-Lit.boolean)) (to_z-of_z {w = w128} {z = c.in-Lit.value} (search rules))
    ∙ set_of-same _ _ (λ width. sym (can-lit (knows c.args.known.now) c.args.term.now c.in-Lit.value c.in-Lit.boolean width c.in-Lit.is))

pub sizes_of_term-returns-in-App : goal.sizes_of_term-returns-in-App
sizes_of_term-returns-in-App t c =
    c.sizes_of_result.ensures
    ∙ result_sizes (knows c.args.known.now) c.args.term.now c.in-App.op c.in-App.size c.in-App.once c.in-App.args c.as_slice.result.now c.usable-set.result c.in-App.is c.as_slice.ensures c.usable-set.ensures

pub usable-loop-at-preserved : goal.usable-loop-at-preserved
usable-loop-at-preserved t c =
    let l = c.loop-at in
    let inputs : c.as_slice-inputs.result.now ≡ (op_info c.args.op).inputs = l.invariant.inputs in
    record {
      inputs = inputs;
      usable = narrow_step (knows c.args.known.now) c.args.args.now l.at c.index-args-at.result (source_widths c.args.op) c.demanded.result l.set c.sizes_of_term-sizes.result c.narrowed-set.result c.loop-at-test.true c.index-args-at.is
          (λ free. asked_at c.args.op c.as_slice-inputs.result.now l.at free _ inputs (c.demanded.ensures free)) c.sizes_of_term-sizes.ensures c.narrowed-set.ensures
          ∙ l.invariant.usable;
    }

pub usable-returns : goal.usable-returns
usable-returns t c =
    let past : length c.args.args.now ≤ c.loop-at.at = grind arith in
    none_past (knows c.args.known.now) c.args.args.now c.loop-at.at (source_widths c.args.op) c.loop-at.set _ past c.loop-at.invariant.usable
