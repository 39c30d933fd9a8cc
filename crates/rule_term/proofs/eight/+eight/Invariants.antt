-- the terms before the place stand at 8 bits
use Rattle.std.proofs.Common.{◌≡◌, drop}
use Rattle.std.specs.List.{list_all}
use Rattle.rule_term.specs.EightBit.{eight_piece}
use Rattle.rule_term.specs.Pieces.{pieces}
use Rattle.rule_term.specs.Terms.{terms_of}
use Rattle.rule_term.proofs.eight.+eight.Given as goal

abbrev pub invariant-eight_terms-loop-term : goal.invariant-eight_terms-loop-term
invariant-eight_terms-loop-term l = list_all eight_piece (pieces (terms_of (drop l.term-index l.terms))) ≡ list_all eight_piece (pieces (terms_of l.terms))
