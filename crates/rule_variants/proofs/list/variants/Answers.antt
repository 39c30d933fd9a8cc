use Rattle.std.proofs.Common.{◌≤◌, arith}
use Rattle.rule_variants.proofs.SideLemmas.{few_sides, sides_on}
use Rattle.rule_variants.proofs.list.variants.Goals as goal

pub returns-clause-few : goal.returns-clause-few
returns-clause-few c =
    let count = c.variant_count-variant-end.ensures in
    let within : c.loop-variant.variant ≤ c.variant_count-variant-end.result = c.loop-variant.auto.variant-end in
    few_sides c.args.rule.now c.loop-variant.list c.loop-variant.variant (omega (arith, count, within)) c.loop-variant.invariant

pub loop-variant-preserved : goal.loop-variant-preserved
loop-variant-preserved c =
    sides_on c.args.rule.now.search c.loop-variant.list c.push.new.self c.in_ok-side.side c.loop-variant.variant c.in_ok-push.ensures.ok c.in_ok-side.ensures c.loop-variant.invariant
