use Rattle.std.proofs.Common.{sym, ◌∙◌}
use Rattle.rule_check.proofs.Trials.{differs_unmet, differs_met}
use Rattle.rule_check.proofs.cases.differs.Goals as goal

pub returns-then-not-meets : goal.returns-then-not-meets
returns-then-not-meets c = sym (differs_unmet c.args.rule.now c.args.typing.now.widths c.args.values.now (sym c.meets.ensures ∙ c.if-not-meets.true))

pub returns : goal.returns
returns c =
    sym (differs_met c.args.rule.now c.args.typing.now.widths c.args.values.now c.eval_term.result c.eval_term-2.result (sym c.meets.ensures ∙ c.if-not-meets.false) c.eval_term.ensures c.eval_term-2.ensures)
