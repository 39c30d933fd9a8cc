-- whether the terms that are left are settled
use Rattle.std.proofs.Common.{◌≡◌, drop}
use Rattle.rule_term.specs.ReplaceLeast.{knows}
use Rattle.rule_term.specs.Terms.{terms_of}
use Rattle.law_derive.specs.ExprSizes.{settled}
use Rattle.law_derive.proofs.sizes.+settled.Given as goal

abbrev pub invariant-are_terms_settled-loop-term : goal.invariant-are_terms_settled-loop-term
invariant-are_terms_settled-loop-term l = record {
  so_far : settled (knows l.known) (terms_of (drop l.term-index l.terms)) ≡ settled (knows l.known) (terms_of l.terms);
}
