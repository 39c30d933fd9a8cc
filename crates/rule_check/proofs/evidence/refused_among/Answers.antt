use Rattle.std.proofs.Common.{sym, ◌∙◌}
use Rattle.rule_check.specs.Accepted.{claim_of}
use Rattle.rule_check.proofs.EvidenceLemmas.{among-past, typing-at}
use Rattle.rule_check.proofs.evidence.refused_among.Goals as goal

pub cause_at-requires : goal.cause_at-requires
cause_at-requires c = typing-at c.args.entry.now.rule c.args.list.now c.loop-at.at c.index-list-at.result (c.loop-at-test.true, c.index-list-at.is) c.requires.each

pub loop-at-preserved : goal.loop-at-preserved
loop-at-preserved c =
    among-past (claim_of c.args.entry.now) c.args.list.now c.loop-at.at c.index-list-at.result (c.loop-at-test.true, c.index-list-at.is) (sym c.in_ok-cause.ensures ∙ c.in_default.is)
    ∙ c.loop-at.invariant
