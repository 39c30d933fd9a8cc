-- what is filled so far, followed by the least sizes of the terms from the place on
use Rattle.std.proofs.Common.{◌≡◌, ◌≤◌, ◌+◌, ◌++◌, drop, length, map}
use Rattle.op_eval.specs.Calls.{size_at}
use Rattle.rule_term.specs.ReplaceLeast.{knows, least}
use Rattle.rule_term.specs.Terms.{terms_of}
use Rattle.rule_term.specs.Typings.{size_of}
use Rattle.rule_term.proofs.replace.+fill.Given as goal

abbrev pub invariant-fill_terms-loop-at : goal.invariant-fill_terms-loop-at
invariant-fill_terms-loop-at l = record {
  filled : l.widths.items ++ least (knows l.known) (terms_of (drop l.at l.terms)) (drop l.at (map (λ input. size_at input.kind.size l.free) l.inputs)) ≡ l.fn.widths.items ++ least (knows l.known) (terms_of l.terms) (map (λ input. size_at input.kind.size l.free) l.inputs);
  room : length l.widths.items + size_of (terms_of (drop l.at l.terms)) ≤ 49;
}
