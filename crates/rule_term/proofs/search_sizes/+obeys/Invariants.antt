-- the nodes of the terms before the place may have their sizes
use Rattle.std.proofs.Common.{◌≡◌, ◌+◌, drop}
use Rattle.rule_term.specs.Terms.{terms_of}
use Rattle.rule_term.specs.Typings.{obeys, size_of}
use Rattle.rule_term.proofs.search_sizes.+obeys.Given as goal

abbrev pub invariant-obeys_terms-loop-term : goal.invariant-obeys_terms-loop-term
invariant-obeys_terms-loop-term l = record {
  obeyed : obeys (terms_of (drop l.term-index l.terms)) (drop l.nodes l.widths) ≡ obeys (terms_of l.terms) l.widths;
  nodes_made : l.nodes + size_of (terms_of (drop l.term-index l.terms)) ≡ size_of (terms_of l.terms);
}
