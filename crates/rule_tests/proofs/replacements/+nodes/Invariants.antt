-- the nodes counted so far and those of the terms from the place on
use Rattle.std.proofs.Common.{◌≡◌, ◌+◌, drop}
use Rattle.rule_term.specs.Terms.{terms_of}
use Rattle.rule_term.specs.Typings.{size_of}
use Rattle.rule_tests.proofs.replacements.+nodes.Given as goal

abbrev pub invariant-nodes_in_list-loop-term : goal.invariant-nodes_in_list-loop-term
invariant-nodes_in_list-loop-term l = l.count + size_of (terms_of (drop l.term-index l.terms)) ≡ size_of (terms_of l.terms)
