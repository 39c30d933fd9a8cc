use Rattle.std.proofs.Common.{rules, ◌≡◌, ◌∙◌, ◌+◌, sym, ap, drop, map, None, Some}
use Rattle.law_derive.specs.Derivations.{bound_others}
use Rattle.law_derive.specs.Readings.{bound_says, fill_all, fill_one}
use Rattle.law_derive.specs.Views.{filling_says, law_says}
use Rattle.law_derive.proofs.BindingLemmas.{fill_step}
use Rattle.law_derive.proofs.binding.fill_all.Goals as goal

pub returns-then-not-branch : goal.returns-then-not-branch
returns-then-not-branch c =
    let law = law_says c.args.law.now in
    let filling = filling_says c.loop-bound.filling.items in
    let b = c.bound-item.result in
    let made : fill_one law b.letter b.nodes filling ≡ None = search rules in
    sym c.loop-bound.invariant.so_far
    ∙ fill_step law c.args.bounds.now c.loop-bound.bound-index b filling c.loop-bound-test.true c.bound-item.is
    ∙ ap (λ o. bound_others o (fill_all law (map bound_says (drop (c.loop-bound.bound-index + 1) c.args.bounds.now)))) made

pub loop-bound-preserved : goal.loop-bound-preserved
loop-bound-preserved c =
    let law = law_says c.args.law.now in
    let filling = filling_says c.loop-bound.filling.items in
    let b = c.bound-item.result in
    let made : fill_one law b.letter b.nodes filling ≡ Some (filling_says c.fill_one.new.filling.items) = search rules in
    record {
      so_far = sym (fill_step law c.args.bounds.now c.loop-bound.bound-index b filling c.loop-bound-test.true c.bound-item.is
          ∙ ap (λ o. bound_others o (fill_all law (map bound_says (drop (c.loop-bound.bound-index + 1) c.args.bounds.now)))) made)
          ∙ c.loop-bound.invariant.so_far;
    }
