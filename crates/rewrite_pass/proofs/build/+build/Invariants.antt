-- what was built, and what is built of the terms behind it, is what is built of all
use Rattle.std.proofs.Common.{◌≡◌, ◌≤◌, ◌+◌, ◌++◌, drop}
use Rattle.rule_term.specs.Terms.{terms_of}
use Rattle.rule_term.specs.Typings.{size_of}
use Rattle.rewrite_pass.specs.Building.{made_on}
use Rattle.rewrite_pass.proofs.build.+build.Given as goal

abbrev pub invariant-build_terms-loop-term : goal.invariant-build_terms-loop-term
invariant-build_terms-loop-term l = record {
  instrs : l.building.instrs ++ (made_on l.subst l.count (terms_of (drop l.term-index l.terms)) l.widths l.building).instrs ≡ l.fn.building.instrs ++ (made_on l.subst l.count (terms_of l.terms) l.widths l.fn.building).instrs;
  nodes : l.building.nodes + size_of (terms_of (drop l.term-index l.terms)) ≡ l.fn.building.nodes + size_of (terms_of l.terms);
  next : (made_on l.subst l.count (terms_of (drop l.term-index l.terms)) l.widths l.building).next ≡ (made_on l.subst l.count (terms_of l.terms) l.widths l.fn.building).next;
  sources : l.srcs ++ (made_on l.subst l.count (terms_of (drop l.term-index l.terms)) l.widths l.building).sources ≡ (made_on l.subst l.count (terms_of l.terms) l.widths l.fn.building).sources;
  room : l.building.next + size_of (terms_of (drop l.term-index l.terms)) ≤ l.fn.building.next + size_of (terms_of l.terms);
}
