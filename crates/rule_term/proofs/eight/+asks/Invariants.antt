-- no variable of the terms before the place asks for 8 bits
use Rattle.std.proofs.Common.{◌≡◌, drop}
use Rattle.std.specs.List.{list_any}
use Rattle.rule_term.specs.EightBit.{asks_eight}
use Rattle.rule_term.specs.Pieces.{pieces}
use Rattle.rule_term.specs.Terms.{terms_of}
use Rattle.rule_term.proofs.eight.+asks.Given as goal

abbrev pub invariant-asks_eight_terms-loop-term : goal.invariant-asks_eight_terms-loop-term
invariant-asks_eight_terms-loop-term l = list_any asks_eight (pieces (terms_of (drop l.term-index l.terms))) ≡ list_any asks_eight (pieces (terms_of l.terms))
