use Rattle.std.proofs.Common.{IfOk, ◌≡◌, sym, subst}
use Rattle.rule_check.proofs.EvidenceLemmas.{log_over}
use Rattle.rule_check.proofs.evidence.cause_of_log.Goals as goal

pub returns-in-Ok : goal.returns-in-Ok
returns-in-Ok c =
    let told = c.in-Ok.ensures.value in
    subst (λ found. IfOk c.cause_among.result (λ cause. cause ≡ found)) (sym (log_over c.args.rule.now c.args.typing.now.widths c.args.log.now c.in-Ok.clauses told.0 told.1))
    c.cause_among.ensures
