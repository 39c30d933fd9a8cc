-- the sources before the place have their sizes
use Rattle.std.proofs.Common.{◌≡◌, ◌+◌, drop, length, map}
use Rattle.std.specs.Cmp.Lexicographic.{pointwise}
use Rattle.op_eval.specs.Calls.{same_width, size_at}
use Rattle.rule_term.specs.Terms.{terms_of}
use Rattle.rule_term.specs.Typings.{roots, size_of}
use Rattle.rule_term.proofs.search_sizes.sources_fit.Given as goal

abbrev pub invariant-loop-at : goal.invariant-loop-at
invariant-loop-at l = record {
  fit : pointwise same_width (drop l.at (map (λ input. size_at input.kind.size l.free) l.inputs)) (roots (terms_of (drop l.at l.args)) (drop l.nodes l.widths)) ≡ pointwise same_width (map (λ input. size_at input.kind.size l.free) l.inputs) (roots (terms_of l.args) l.widths);
  nodes_made : l.nodes + size_of (terms_of (drop l.at l.args)) ≡ size_of (terms_of l.args);
  same_length : length l.inputs ≡ length l.args;
}
