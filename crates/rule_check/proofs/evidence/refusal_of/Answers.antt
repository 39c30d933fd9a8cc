use Rattle.std.proofs.Common.{◌≡◌, Some, Err, ◌∙◌, ap, subst}
use Rattle.size_infer.specs.SizeFaults.{TellsFault, size_fault}
use Rattle.size_infer.specs.declared.fault.SizeFault.TheVariants.{Contradiction, Ambiguous, TooMany}
use Rattle.rule_check.specs.Accepted.{claim_of, refused_by_size}
use Rattle.rule_check.proofs.EvidenceLemmas.{told_by_size}
use Rattle.rule_check.proofs.evidence.refusal_of.Goals as goal

pub returns-in-Err-Contradiction-clause-value : goal.returns-in-Err-Contradiction-clause-value
returns-in-Err-Contradiction-clause-value c =
    told_by_size c.args.entry.now Contradiction c.refused_by_size.result c.refused_by_size.ensures
    (subst (TellsFault c.args.entry.now.rule) (c.in-Err-Contradiction.is ∙ ap Err c.in-Err-Contradiction.field-0-is) c.typings.ensures.fault)

pub returns-in-Err-Ambiguous-clause-value : goal.returns-in-Err-Ambiguous-clause-value
returns-in-Err-Ambiguous-clause-value c =
    let node = c.in-Err-Ambiguous.node-is in
    let is = c.refused_by_size-in-Err-Ambiguous.ensures in
    let told = subst (TellsFault c.args.entry.now.rule) (c.in-Err-Ambiguous.is ∙ ap Err c.in-Err-Ambiguous.field-0-is) c.typings.ensures.fault in
    let refused : c.refused_by_size-in-Err-Ambiguous.result ≡ refused_by_size (claim_of c.args.entry.now) (Ambiguous c.in-Err-Ambiguous.node) = cc in
    let fault : size_fault c.args.entry.now.rule ≡ Some (Ambiguous c.in-Err-Ambiguous.node) = cc in
    told_by_size c.args.entry.now (Ambiguous c.in-Err-Ambiguous.node) c.refused_by_size-in-Err-Ambiguous.result refused fault

pub returns-in-Err-TooMany-clause-value : goal.returns-in-Err-TooMany-clause-value
returns-in-Err-TooMany-clause-value c =
    told_by_size c.args.entry.now TooMany c.refused_by_size-in-Err-TooMany.result c.refused_by_size-in-Err-TooMany.ensures
    (subst (TellsFault c.args.entry.now.rule) (c.in-Err-TooMany.is ∙ ap Err c.in-Err-TooMany.field-0-is) c.typings.ensures.fault)
