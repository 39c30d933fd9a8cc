use Rattle.std.proofs.Common.{rules, ◌≡◌, ◌∙◌, sym, Ok}
use Rattle.rule_read.specs.Says.{step_says}
use Rattle.law_derive.specs.Derivations.{step_made}
use Rattle.law_derive.specs.Settings.{setting_says}
use Rattle.law_derive.specs.StepsLaws.{step_keeps}
use Rattle.law_derive.proofs.StepLemmas.{derive_step}
use Rattle.law_derive.proofs.check.derived.Goals as goal

pub loop-number-preserved : goal.loop-number-preserved
loop-number-preserved c =
    let at = setting_says c.args.setting.now in
    let l = c.loop-number in
    let step = c.index-steps-number.result in
    let made : step_made at (step_says step) l.nodes ≡ Ok c.in-Ok.next = search rules in
    record {
      so_far = sym (derive_step at c.args.steps.now l.number step l.nodes (Ok c.in-Ok.next) c.loop-number-test.true c.index-steps-number.is made) ∙ l.invariant.so_far;
      term = (step_keeps at (step_says step) l.nodes c.in-Ok.next l.invariant.term made).stands;
    }
