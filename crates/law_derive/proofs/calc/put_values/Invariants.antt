use Rattle.std.proofs.Common.{◌≡◌, ◌≤◌, [], drop, length}
use Rattle.op_eval.specs.Words.{words_bits, words_widths}
use Rattle.law_derive.specs.Nodes.{roots, values}
use Rattle.law_derive.proofs.calc.put_values.Given as goal

-- the values of the terms that begin from the place on stand at the end, and as many words as nodes are left stand before them
abbrev pub invariant-nodes : goal.invariant-nodes
invariant-nodes l = record {
  left : l.at ≤ l.begin;
  within : l.begin ≤ length l.words;
  room : length l.words ≡ length l.nodes;
  values_made : words_bits (drop l.begin l.words) ≡ values (drop l.at l.nodes) [];
  sizes_made : words_widths (drop l.begin l.words) ≡ roots (drop l.at l.nodes);
}

abbrev pub decreases-nodes : goal.decreases-nodes
decreases-nodes l = l.at
