-- what was found, or else what is found behind it, is what the whole list has first
use Rattle.std.proofs.Common.{◌≡◌, ◌+◌, ◌*◌, [], ◌∷◌, drop, not}
use Rattle.std.specs.Prelude.{find}
use Rattle.std.specs.Option.{option_or}
use Rattle.rule_term.specs.Terms.{terms_of}
use Rattle.rule_term.specs.Pieces.{ops_of}
use Rattle.rule_term.specs.Typings.{size_of}
use Rattle.circuit_laws.specs.Opcodes.{has_circuit}
use Rattle.bit_circuit.proofs.without.+without.Given as goal

abbrev pub invariant-without_in_list-loop-term : goal.invariant-without_in_list-loop-term
invariant-without_in_list-loop-term l =
    option_or l.found (find (λ op. not (has_circuit op)) (ops_of (terms_of (drop l.term-index l.list)))) ≡ find (λ op. not (has_circuit op)) (ops_of (terms_of l.list))

-- the nodes to walk, and a list before its terms
abbrev pub decreases-without_in_list : goal.decreases-without_in_list
decreases-without_in_list l = 2 * size_of (terms_of l.list.now) + 1

abbrev pub decreases-without_in_term : goal.decreases-without_in_term
decreases-without_in_term l = 2 * size_of (terms_of (l.term.now ∷ []))
