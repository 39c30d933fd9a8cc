use Rattle.std.proofs.Common.{◌≡◌, ◌++◌, drop}
use Rattle.rule_term.specs.Terms.{terms_of}
use Rattle.rule_term.specs.Typings.{size_of}
use Rattle.law_derive.specs.Nodes.{nodes_of}
use Rattle.law_derive.proofs.terms.+nodes.Given as goal

-- the nodes so far, and those of the terms that are left at the sizes that are left
abbrev pub invariant-push_terms-loop-term : goal.invariant-push_terms-loop-term
invariant-push_terms-loop-term l = record {
  so_far : l.nodes ++ nodes_of (terms_of (drop l.term-index l.terms)) l.behind ≡ l.fn.nodes ++ nodes_of (terms_of l.terms) l.widths;
  left : drop (size_of (terms_of (drop l.term-index l.terms))) l.behind ≡ drop (size_of (terms_of l.terms)) l.widths;
}
