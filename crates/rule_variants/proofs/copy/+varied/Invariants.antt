-- the copies so far, and then those of the terms that are left, are all
use Rattle.rule_variants.proofs.CopyLemmas.{IsUnderway}
use Rattle.rule_variants.proofs.copy.+varied.Given as goal

abbrev pub invariant-varied_terms-loop-term : goal.invariant-varied_terms-loop-term
invariant-varied_terms-loop-term l = IsUnderway l.terms l.fn.bits l.copies l.term-index l.bits
