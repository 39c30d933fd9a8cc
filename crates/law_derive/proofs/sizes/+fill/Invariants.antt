-- what is filled so far, followed by the least sizes of the terms from the place on
use Rattle.std.proofs.Common.{◌≡◌, ◌++◌, drop, map}
use Rattle.op_eval.specs.Calls.{size_at}
use Rattle.rule_term.specs.ReplaceLeast.{knows, least}
use Rattle.rule_term.specs.Terms.{terms_of}
use Rattle.law_derive.proofs.sizes.+fill.Given as goal

abbrev pub invariant-fill_terms-loop-at : goal.invariant-fill_terms-loop-at
invariant-fill_terms-loop-at l = record {
  so_far : l.widths ++ least (knows l.known) (terms_of (drop l.at l.terms)) (drop l.at (map (λ input. size_at input.kind.size l.free) l.inputs))
      ≡ l.fn.widths ++ least (knows l.known) (terms_of l.terms) (map (λ input. size_at input.kind.size l.free) l.inputs);
}
