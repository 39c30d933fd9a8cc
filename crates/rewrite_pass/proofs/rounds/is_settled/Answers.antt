use Rattle.std.proofs.Common.{rules, ◌≡◌, ◌∙◌, ap, sym, ◌<◌, ◌≤◌, true, arith}
use Rattle.std.specs.Prelude.{is_some}
use Rattle.nir_search.specs.FirstLaws.{settled_below}
use Rattle.rule_meaning.specs.SettledLaws.{unsettled_where}
use Rattle.rewrite_pass.proofs.rounds.is_settled.Goals as goal

pub returns-then-is_some : goal.returns-then-is_some
returns-then-is_some g c =
    let some : is_some c.first_match.result ≡ true = search rules in
    sym (unsettled_where c.args.options.now c.args.table.now.rules c.args.work.now.shader c.keeps_shape.ensures.shaped c.rules_hold.ensures.formed c.loop-number.number
    (ap is_some (sym c.first_match.ensures.hit) ∙ some))

pub returns : goal.returns
returns g c =
    let bound = c.next_value-number-end.ensures in
    sym (settled_below c.args.options.now c.args.table.now.rules c.args.work.now.shader c.keeps_shape.ensures.shaped
    (λ n less. c.loop-number.invariant n (omega (arith, less, bound, c.loop-number-test.false))))
