use Rattle.std.proofs.Common.{◌≡◌, ◌<◌, ◌∙◌, sym, ap, subst, arith, true, None, if◌then◌else◌}
use Rattle.std.proofs.lemmas.Option.{same_Some}
use Rattle.std.specs.List.{range_with_len}
use Rattle.rule_term.specs.Options.{when_holds}
use Rattle.rule_term.specs.Variants.{variant_count}
use Rattle.nir_search.specs.First.{first_variant}
use Rattle.nir_search.specs.Walks.{NeverMatches}
use Rattle.nir_search.proofs.FirstLemmas.{never_found, variant_found, variant_passed}
use Rattle.nir_search.proofs.first.hit_of.Goals as goal

pub returns-in-Some-clause-hit : goal.returns-in-Some-clause-hit
returns-in-Some-clause-hit g c rule at =
    let same = same_Some c.rule-rule.result.now rule (sym c.rule-rule.ensures.value ∙ at) in
    let holds : true ≡ when_holds c.args.options.now rule.when =
    sym c.if-not-holds.false ∙ c.holds.ensures ∙ ap (λ r. when_holds c.args.options.now r.when) (c.rule.view_is ∙ same) in
    let less : c.loop-variant.variant < variant_count rule =
    subst (λ n. c.loop-variant.variant < n) (c.variant_count-variant-end.ensures ∙ ap variant_count same) c.loop-variant-test.true in
    sym (ap (λ b. if b then first_variant rule c.args.place c.args.work.now.shader.body c.args.value (range_with_len 0 (variant_count rule)) else None) (sym holds)
    ∙ sym (c.loop-variant.invariant.found rule at)
    ∙ variant_found rule c.args.place c.args.work.now.shader.body c.args.value c.loop-variant.variant (variant_count rule) c.in-Some.subst less (sym (c.in-Some.ensures.value rule at)))

pub returns-in-Some-clause-counted : goal.returns-in-Some-clause-counted
returns-in-Some-clause-counted g c rule at =
    let same = same_Some c.rule-rule.result.now rule (sym c.rule-rule.ensures.value ∙ at) in
    let less : c.loop-variant.variant < variant_count rule =
    subst (λ n. c.loop-variant.variant < n) (c.variant_count-variant-end.ensures ∙ ap variant_count same) c.loop-variant-test.true in
    let before = c.loop-variant.invariant.counted in
    let here = c.in-Some.ensures.counted in
    omega (arith, less, before, here)

pub loop-variant-preserved : goal.loop-variant-preserved
loop-variant-preserved g c = record {
  found = λ rule at.
      let same = same_Some c.rule-rule.result.now rule (sym c.rule-rule.ensures.value ∙ at) in
      let less : c.loop-variant.variant < variant_count rule =
      subst (λ n. c.loop-variant.variant < n) (c.variant_count-variant-end.ensures ∙ ap variant_count same) c.loop-variant-test.true in
      variant_passed rule c.args.place c.args.work.now.shader.body c.args.value c.loop-variant.variant (variant_count rule) less (sym (c.in-None.ensures.value rule at))
      ∙ c.loop-variant.invariant.found rule at;
  counted = let before = c.loop-variant.invariant.counted in let here = c.in-None.ensures.counted in omega (arith, before, here);
}

pub returns-then-not-may_match-clause-hit : goal.returns-then-not-may_match-clause-hit
returns-then-not-may_match-clause-hit g c rule at =
    let same = same_Some c.rule-rule.result.now rule (sym c.rule-rule.ensures.value ∙ at) in
    never_found c.args.options.now rule c.args.place c.args.work.now.shader.body c.args.value
    (subst (λ terms. NeverMatches c.args.work.now.shader.body terms c.args.value) (ap (λ r. r.search) (c.rule.view_is ∙ same)) (c.may_match.ensures c.if-not-may_match.true))
