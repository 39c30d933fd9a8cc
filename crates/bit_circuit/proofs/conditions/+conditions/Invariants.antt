-- what was asked so far, and what the terms that are left ask, is what the whole list asks
use Rattle.std.proofs.Common.{◌≡◌, ◌+◌, ◌*◌, [], ◌∷◌, drop}
use Rattle.rule_term.specs.Terms.{terms_of}
use Rattle.rule_term.specs.Typings.{size_of, occurrences}
use Rattle.circuit_laws.specs.RuleClauses.{parts_of}
use Rattle.bit_circuit.specs.Asking.{with_parts}
use Rattle.bit_circuit.proofs.conditions.+conditions.Given as goal

abbrev pub invariant-meet_in_list-loop-term : goal.invariant-meet_in_list-loop-term
invariant-meet_in_list-loop-term l =
    with_parts l.circuit (parts_of l.vars (occurrences (terms_of (drop l.term-index l.list)) []) l.circuit.next)
    ≡ with_parts l.fn.circuit (parts_of l.vars (occurrences (terms_of l.list) []) l.fn.circuit.next)

-- the nodes to walk, and a list before its terms
abbrev pub decreases-meet_in_list : goal.decreases-meet_in_list
decreases-meet_in_list l = 2 * size_of (terms_of l.list.now) + 1

abbrev pub decreases-meet_in_term : goal.decreases-meet_in_term
decreases-meet_in_term l = 2 * size_of (terms_of (l.term.now ∷ []))
