use Rattle.std.proofs.Common.{◌≡◌, length}
use Rattle.rule_spelling.specs.Annotated.{is_excluded}
use Rattle.term_read.proofs.annotated.is_excluded.Given as goal

-- what the rest answers is the answer
abbrev pub invariant-bytes : goal.invariant-bytes
invariant-bytes l = is_excluded l.rest ≡ is_excluded l.text

abbrev pub decreases-bytes : goal.decreases-bytes
decreases-bytes l = length l.rest
