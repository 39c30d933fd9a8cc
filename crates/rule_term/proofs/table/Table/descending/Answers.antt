use Rattle.std.proofs.Common.{rules, ◌≡◌, ◌≤◌, ◌∙◌, ◌+◌, ◌&&◌, true, false, length, drop, sym, ap, arith}
use Rattle.std.proofs.lemmas.List.{drop_all}
use Rattle.std.specs.List.{list_all}
use Rattle.rule_term.specs.Descending.{descends}
use Rattle.rule_term.specs.Table.{op_weight}
use Rattle.rule_term.proofs.DescendingLemmas.{answer_is, rules_at}
use Rattle.rule_term.proofs.table.Table.descending.Goals as goal

pub returns-then-not-descends-clause-value : goal.returns-then-not-descends-clause-value
returns-then-not-descends-clause-value c =
    let test = descends (op_weight c.args.self.now) in
    let here : c.descends.result ≡ false = search rules in
    sym (sym c.loop-place.invariant
    ∙ rules_at test c.args.self.now.rules c.loop-place.place c.rule.result.now c.rule.ensures.value
    ∙ ap (λ b. b && list_all test (drop (c.loop-place.place + 1) c.args.self.now.rules)) (sym c.descends.ensures ∙ here))

pub returns-then-not-descends-clause-meant : goal.returns-then-not-descends-clause-meant
returns-then-not-descends-clause-meant c = answer_is c.args.self.now false (returns-then-not-descends-clause-value c)

pub loop-place-preserved : goal.loop-place-preserved
loop-place-preserved c =
    let test = descends (op_weight c.args.self.now) in
    let here : c.descends.result ≡ true = search rules in
    sym (rules_at test c.args.self.now.rules c.loop-place.place c.rule.result.now c.rule.ensures.value
    ∙ ap (λ b. b && list_all test (drop (c.loop-place.place + 1) c.args.self.now.rules)) (sym c.descends.ensures ∙ here))
    ∙ c.loop-place.invariant

pub returns-clause-value : goal.returns-clause-value
returns-clause-value c =
    let past : length c.args.self.now.rules ≤ c.loop-place.place = omega (arith, c.len-place-end.ensures.count, c.loop-place-test.false) in
    sym (ap (list_all (descends (op_weight c.args.self.now))) (drop_all c.loop-place.place c.args.self.now.rules past)) ∙ c.loop-place.invariant

pub returns-clause-meant : goal.returns-clause-meant
returns-clause-meant c = answer_is c.args.self.now true (returns-clause-value c)
