-- the values so far stand before the tuple of what is left of the number
use Rattle.std.proofs.Common.{◌≡◌, ◌≤◌, ◌++◌, drop, length}
use Rattle.std.specs.List.{sum}
use Rattle.rule_check.specs.Cases.{tuple}
use Rattle.rule_check.proofs.cases.tuple_at.Given as goal

abbrev pub invariant-loop-width : goal.invariant-loop-width
invariant-loop-width l = record {
  made : l.values.items ++ tuple (drop l.width-index l.bits) l.rest ≡ tuple l.bits l.number;
  left : l.left ≡ sum (drop l.width-index l.bits);
  few : l.left ≤ 16;
  count : length l.values.items ≡ l.width-index;
}
