-- what was met, and what is met behind it, is what the whole list meets
use Rattle.std.proofs.Common.{◌≡◌, ◌+◌, ◌*◌, ◌≤◌, true, ◌&&◌, [], ◌∷◌, drop}
use Rattle.std.specs.List.{list_all}
use Rattle.rule_term.specs.Terms.{terms_of}
use Rattle.rule_term.specs.Typings.{size_of, occurrences}
use Rattle.rule_term.specs.Holds.{is_word, is_met}
use Rattle.rule_check.proofs.meets.+met.Given as goal

abbrev pub invariant-met_in_list-loop-term : goal.invariant-met_in_list-loop-term
invariant-met_in_list-loop-term l = record {
  met : (l.met && list_all (is_met l.values) (occurrences (terms_of (drop l.term-index l.list)) (drop l.next l.widths))) ≡ list_all (is_met l.values) (occurrences (terms_of l.list) (drop l.fn.at l.widths));
  place : l.next + size_of (terms_of (drop l.term-index l.list)) ≡ l.fn.at + size_of (terms_of l.list);
  behind : l.fn.at ≤ l.next;
  words : list_all (is_word l.values) (occurrences (terms_of (drop l.term-index l.list)) (drop l.next l.widths)) ≡ true;
}

-- the nodes to walk, and a list before its terms
abbrev pub decreases-met_in_list : goal.decreases-met_in_list
decreases-met_in_list l = 2 * size_of (terms_of l.list.now) + 1

abbrev pub decreases-met_in_term : goal.decreases-met_in_term
decreases-met_in_term l = 2 * size_of (terms_of (l.term.now ∷ []))
