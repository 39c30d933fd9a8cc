-- the words and gates so far, and those of the terms that are left, are those of the whole list
use Rattle.std.proofs.Common.{◌≡◌, ◌+◌, ◌*◌, ◌≤◌, [], ◌∷◌, ◌++◌, drop}
use Rattle.rule_term.specs.Terms.{terms_of}
use Rattle.rule_term.specs.Typings.{size_of}
use Rattle.circuit_laws.specs.RuleClauses.{terms_circuit}
use Rattle.bit_circuit.specs.Growth.{grown}
use Rattle.bit_circuit.proofs.terms.+terms.Given as goal

abbrev pub invariant-words_of_list-loop-term : goal.invariant-words_of_list-loop-term
invariant-words_of_list-loop-term l = record {
  words : l.words ++ (terms_circuit (terms_of (drop l.term-index l.list)) (drop l.next l.widths) l.vars l.circuit.next).words
      ≡ (terms_circuit (terms_of l.list) (drop l.fn.at l.widths) l.vars l.fn.circuit.next).words;
  grown : grown l.circuit (terms_circuit (terms_of (drop l.term-index l.list)) (drop l.next l.widths) l.vars l.circuit.next).gates
      ≡ grown l.fn.circuit (terms_circuit (terms_of l.list) (drop l.fn.at l.widths) l.vars l.fn.circuit.next).gates;
  place : l.next + size_of (terms_of (drop l.term-index l.list)) ≡ l.fn.at + size_of (terms_of l.list);
  behind : l.fn.at ≤ l.next;
}

-- the nodes to walk, and a list before its terms
abbrev pub decreases-words_of_list : goal.decreases-words_of_list
decreases-words_of_list l = 2 * size_of (terms_of l.list.now) + 1

abbrev pub decreases-word_of_term : goal.decreases-word_of_term
decreases-word_of_term l = 2 * size_of (terms_of (l.term.now ∷ []))
