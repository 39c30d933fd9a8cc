-- the weights of the terms so far and of those from the place on
use Rattle.std.proofs.Common.{◌≡◌, ◌+◌, drop}
use Rattle.rule_term.specs.Descending.{terms_weight}
use Rattle.rule_term.specs.Table.{op_weight}
use Rattle.rule_term.specs.Terms.{terms_of}
use Rattle.rule_term.proofs.descending.+weight.Given as goal

abbrev pub invariant-terms_weight-loop-term : goal.invariant-terms_weight-loop-term
invariant-terms_weight-loop-term l =
    l.sum + terms_weight (op_weight l.table) (terms_of (drop l.term-index l.terms)) ≡ terms_weight (op_weight l.table) (terms_of l.terms)
