-- what was found, or else what is found behind it, is what the whole list has first
use Rattle.std.proofs.Common.{◌≡◌, ◌+◌, ◌*◌, ◌≤◌, [], ◌∷◌, drop}
use Rattle.std.specs.Option.{option_or}
use Rattle.rule_term.specs.Terms.{terms_of}
use Rattle.rule_term.specs.Typings.{size_of, occurrences}
use Rattle.circuit_laws.specs.Variables.{width_found}
use Rattle.bit_circuit.proofs.variables.+found.Given as goal

abbrev pub invariant-found_in_list-loop-term : goal.invariant-found_in_list-loop-term
invariant-found_in_list-loop-term l = record {
  found : option_or l.width (width_found (occurrences (terms_of (drop l.term-index l.list)) (drop l.next l.widths)) l.var) ≡ width_found (occurrences (terms_of l.list) (drop l.fn.at l.widths)) l.var;
  place : l.next + size_of (terms_of (drop l.term-index l.list)) ≡ l.fn.at + size_of (terms_of l.list);
  behind : l.fn.at ≤ l.next;
}

-- the nodes to walk, and a list before its terms
abbrev pub decreases-found_in_list : goal.decreases-found_in_list
decreases-found_in_list l = 2 * size_of (terms_of l.list.now) + 1

abbrev pub decreases-found_in_term : goal.decreases-found_in_term
decreases-found_in_term l = 2 * size_of (terms_of (l.term.now ∷ []))
