-- what the terms that follow leave is what all leave
use Rattle.std.proofs.Common.{◌≡◌, ◌-◌, drop}
use Rattle.rule_term.specs.Terms.{terms_of}
use Rattle.rule_term.specs.Variants.{commutes}
use Rattle.rule_variants.proofs.count.+commutes.Given as goal

abbrev pub invariant-without_terms-loop-term : goal.invariant-without_terms-loop-term
invariant-without_terms-loop-term l = l.left - commutes (terms_of (drop l.term-index l.terms)) ≡ l.fn.left - commutes (terms_of l.terms)
