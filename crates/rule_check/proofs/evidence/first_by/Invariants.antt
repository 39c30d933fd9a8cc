-- what the rest of the list answers is the answer
use Rattle.std.proofs.Common.{◌≡◌, drop, find, map}
use Rattle.rule_read.specs.Says.{line_says}
use Rattle.rule_check.specs.Lines.{is_for}
use Rattle.rule_check.proofs.evidence.first_by.Given as goal

abbrev pub invariant-loop-line : goal.invariant-loop-line
invariant-loop-line l = find (is_for l.typing) (map line_says (drop l.line-index l.lines)) ≡ find (is_for l.typing) (map line_says l.lines)
