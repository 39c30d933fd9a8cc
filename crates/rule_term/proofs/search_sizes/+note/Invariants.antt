-- what is noted of the terms before the place, with what the others note, is what all note
use Rattle.std.proofs.Common.{◌≡◌, ◌+◌, drop}
use Rattle.rule_term.specs.ReplaceLeast.{noted}
use Rattle.rule_term.specs.Terms.{terms_of}
use Rattle.rule_term.specs.Typings.{occurrences, size_of}
use Rattle.rule_term.proofs.search_sizes.+note.Given as goal

abbrev pub invariant-note_terms-loop-term : goal.invariant-note_terms-loop-term
invariant-note_terms-loop-term l = record {
  noted : noted (occurrences (terms_of (drop l.term-index l.terms)) (drop l.nodes l.widths)) l.known ≡ noted (occurrences (terms_of l.terms) l.widths) l.fn.known;
  nodes_made : l.nodes + size_of (terms_of (drop l.term-index l.terms)) ≡ size_of (terms_of l.terms);
}
