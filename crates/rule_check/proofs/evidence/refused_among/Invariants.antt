-- each typing before this one has good evidence
use Rattle.std.proofs.Common.{◌≡◌, drop}
use Rattle.size_infer.specs.Grown.{all_widths_of}
use Rattle.rule_check.specs.Accepted.{claim_of, refused_among}
use Rattle.rule_check.proofs.evidence.refused_among.Given as goal

abbrev pub invariant-loop-at : goal.invariant-loop-at
invariant-loop-at l = refused_among (claim_of l.entry) l.at (all_widths_of (drop l.at l.list)) ≡ refused_among (claim_of l.entry) 0 (all_widths_of l.list)
