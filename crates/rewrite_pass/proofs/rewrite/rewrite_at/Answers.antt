use Rattle.std.proofs.Common.{sym, subst, ◌+◌, ◌≤◌}
use Rattle.nir_ir.specs.Shader.{Shader}
use Rattle.nir_validate.specs.Valid.{Valid}
use Rattle.nir_mean.specs.Same.{Same}
use Rattle.rule_term.specs.Formed.{IsFormed}
use Rattle.rule_term.specs.Table.{op_weight}
use Rattle.nir_search.specs.Weight.{weight_of}
use Rattle.rule_meaning.specs.HitLaws.{hit_falls, hit_few, hit_keeps, hit_may}
use Rattle.rewrite_pass.proofs.rewrite.rewrite_at.Goals as goal

pub replace_in_place-requires : goal.replace_in_place-requires
replace_in_place-requires c =
    let formed = subst IsFormed c.rule.view_is c.rule.invariant in
    record {
      may = hit_may c.args.table.now c.args.work.now.shader c.keeps_shape.ensures.shaped c.keeps_shape.ensures.valid c.args.value c.args.hit.now c.rule-rule.result.now formed c.rule-rule.ensures.value c.requires.hit
          c.as_slice.result.now c.as_slice.ensures.value c.in_ok-news.news c.in_ok-news.ensures c.rule-rule.ensures.holds c.requires.fresh;
    }

pub returns-clause-valid : goal.returns-clause-valid
returns-clause-valid c =
    let formed = subst IsFormed c.rule.view_is c.rule.invariant in
    subst Valid (sym c.in_ok-replace_in_place.ensures.done)
    (hit_keeps c.args.table.now c.args.work.now.shader c.keeps_shape.ensures.shaped c.keeps_shape.ensures.valid c.args.value c.args.hit.now c.rule-rule.result.now formed c.rule-rule.ensures.value c.requires.hit
    c.as_slice.result.now c.as_slice.ensures.value c.in_ok-news.news c.in_ok-news.ensures c.rule-rule.ensures.holds).valid

pub returns-clause-same : goal.returns-clause-same
returns-clause-same c =
    let formed = subst IsFormed c.rule.view_is c.rule.invariant in
    subst (Same c.args.work.now.shader) (sym c.in_ok-replace_in_place.ensures.done)
    (hit_keeps c.args.table.now c.args.work.now.shader c.keeps_shape.ensures.shaped c.keeps_shape.ensures.valid c.args.value c.args.hit.now c.rule-rule.result.now formed c.rule-rule.ensures.value c.requires.hit
    c.as_slice.result.now c.as_slice.ensures.value c.in_ok-news.news c.in_ok-news.ensures c.rule-rule.ensures.holds).same

pub returns-clause-few : goal.returns-clause-few
returns-clause-few c =
    let formed = subst IsFormed c.rule.view_is c.rule.invariant in
    subst (λ (t : Shader). t.next_value ≤ c.args.work.now.shader.next_value + 64) (sym c.in_ok-replace_in_place.ensures.done)
    (hit_few c.args.table.now c.args.work.now.shader c.keeps_shape.ensures.shaped c.keeps_shape.ensures.valid c.args.value c.args.hit.now c.rule-rule.result.now formed c.rule-rule.ensures.value c.requires.hit
    c.as_slice.result.now c.as_slice.ensures.value c.in_ok-news.news c.in_ok-news.ensures)

pub returns-clause-falls : goal.returns-clause-falls
returns-clause-falls c = λ down.
    let formed = subst IsFormed c.rule.view_is c.rule.invariant in
    let weight = op_weight c.args.table.now in
    subst (λ (t : Shader). weight_of weight t + 1 ≤ weight_of weight c.args.work.now.shader) (sym c.in_ok-replace_in_place.ensures.done)
    (hit_falls c.args.table.now c.args.work.now.shader c.keeps_shape.ensures.shaped c.keeps_shape.ensures.valid c.args.value c.args.hit.now c.rule-rule.result.now formed c.rule-rule.ensures.value c.requires.hit
    c.as_slice.result.now c.as_slice.ensures.value c.in_ok-news.news c.in_ok-news.ensures c.weights_are_few.ensures.mov down)
