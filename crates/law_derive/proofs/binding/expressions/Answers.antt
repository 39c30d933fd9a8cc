use Rattle.std.proofs.Common.{rules, ◌≡◌, ◌∙◌, ◌+◌, ◌++◌, ◌∷◌, [], sym, ap, drop, map, Some}
use Rattle.rule_read.specs.Says.{binding_says}
use Rattle.term_read.specs.Views.{term_says}
use Rattle.law_derive.specs.Derivations.{letter_named}
use Rattle.law_derive.specs.Readings.{bound_says, expr_of, exprs_of, onto}
use Rattle.law_derive.specs.Settings.{setting_says}
use Rattle.law_derive.proofs.BindingLemmas.{expr_step, onto_step}
use Rattle.law_derive.proofs.binding.expressions.Goals as goal

pub loop-binding-preserved : goal.loop-binding-preserved
loop-binding-preserved c =
    let at = setting_says c.args.setting.now in
    let width = c.args.width in
    let item = c.binding-item.result in
    let b = c.in-Some.bound in
    let front = c.loop-binding.bounds in
    let rest = exprs_of at width (map binding_says (drop (c.loop-binding.binding-index + 1) c.args.bindings.now)) in
    let own : Some (bound_says b) ≡ expr_of at width (letter_named item.name) (term_says item.with) = search rules in
    let pushed : c.push.new.self ≡ front ++ b ∷ [] = search rules in
    record {
      so_far = ap (λ l. onto (map bound_says l) rest) pushed
          ∙ onto_step front b (expr_of at width (letter_named item.name) (term_says item.with)) rest own
          ∙ ap (onto (map bound_says front)) (sym (expr_step at width c.args.bindings.now c.loop-binding.binding-index item c.loop-binding-test.true c.binding-item.is))
          ∙ c.loop-binding.invariant.so_far;
    }
