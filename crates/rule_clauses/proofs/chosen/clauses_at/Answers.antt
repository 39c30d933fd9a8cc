use Rattle.std.proofs.Common.{ap, sym, ◌∙◌}
use Rattle.rule_read.specs.Says.{rule_says}
use Rattle.rule_clauses.specs.Asked.{bare, by_circuits, Chosen}
use Rattle.rule_clauses.proofs.Finding.{bare_clauses}
use Rattle.rule_clauses.proofs.chosen.clauses_at.Goals as goal

pub returns-in-Ok-clause-fits : goal.returns-in-Ok-clause-fits
returns-in-Ok-clause-fits c =
    let rule = bare (rule_says c.args.rule.now) in
    let chosen : Chosen = record { rule = rule; widths = c.args.typing.now.widths } in
    (chosen, ap (by_circuits c.args.choice chosen) c.in-Ok.ensures.value.0, c.in-Ok.ensures.value.1 ∙ sym (bare_clauses c.args.rule.now c.args.typing.now.widths))
