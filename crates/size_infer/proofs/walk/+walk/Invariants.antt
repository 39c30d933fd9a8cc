-- what the terms from the place on ask makes of what is collected so far all of it
use Rattle.std.proofs.Common.{◌≡◌, ◌+◌, ◌++◌, drop, map}
use Rattle.rule_term.specs.Terms.{terms_of}
use Rattle.rule_term.specs.Typings.{size_of}
use Rattle.size_laws.specs.NodeRules.{root_places, rules_of, var_places}
use Rattle.size_infer.specs.Meant.{meant, spot_of}
use Rattle.size_infer.proofs.walk.+walk.Given as goal

abbrev pub invariant-add_terms-loop-term : goal.invariant-add_terms-loop-term
invariant-add_terms-loop-term l = record {
  rules_made : map meant l.rules ++ rules_of (terms_of (drop l.term-index l.terms)) l.place ≡ map meant l.fn.rules ++ rules_of (terms_of l.terms) l.first;
  spots_made : l.spots ++ map spot_of (var_places (terms_of (drop l.term-index l.terms)) l.place) ≡ l.fn.spots ++ map spot_of (var_places (terms_of l.terms) l.first);
  roots_made : l.roots ++ root_places (terms_of (drop l.term-index l.terms)) l.place ≡ l.fn.roots ++ root_places (terms_of l.terms) l.first;
  nodes_made : l.place + size_of (terms_of (drop l.term-index l.terms)) ≡ l.first + size_of (terms_of l.terms);
}
