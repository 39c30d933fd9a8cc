-- the values and sizes made so far stand before those of the terms from the place on
use Rattle.std.proofs.Common.{◌≡◌, ◌+◌, ◌++◌, length, take, drop}
use Rattle.op_eval.specs.Words.{words_bits, words_widths}
use Rattle.rule_term.specs.Terms.{terms_of}
use Rattle.rule_term.specs.Typings.{roots, size_of}
use Rattle.rule_term.specs.Holds.{values_of}
use Rattle.rule_term.specs.Ready.{IsReady}
use Rattle.rule_term.proofs.value.+value.Given as goal

abbrev pub invariant-sources_of-loop-at : goal.invariant-sources_of-loop-at
invariant-sources_of-loop-at l = record {
  values_made : words_bits (take l.at l.words) ++ values_of (terms_of (drop l.at l.terms)) (drop l.nodes l.widths) l.values ≡ values_of (terms_of l.terms) l.widths l.values;
  widths_made : words_widths (take l.at l.words) ++ roots (terms_of (drop l.at l.terms)) (drop l.nodes l.widths) ≡ roots (terms_of l.terms) l.widths;
  nodes_made : l.nodes + size_of (terms_of (drop l.at l.terms)) ≡ size_of (terms_of l.terms);
  ready : IsReady (terms_of (drop l.at l.terms)) (drop l.nodes l.widths) l.values;
  room : length l.words ≡ 4;
}
