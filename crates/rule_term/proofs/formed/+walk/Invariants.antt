-- behind the terms that are left is where the whole walk comes to
use Rattle.std.proofs.Common.{◌≡◌, drop}
use Rattle.rule_term.specs.Terms.{terms_of}
use Rattle.rule_term.specs.Pieces.{pieces}
use Rattle.rule_term.specs.FormedWalk.{walked}
use Rattle.rule_term.proofs.formed.+walk.Given as goal

abbrev pub invariant-behind_terms-loop-term : goal.invariant-behind_terms-loop-term
invariant-behind_terms-loop-term l = walked l.side l.at (pieces (terms_of (drop l.term-index l.terms))) ≡ walked l.fn.side l.fn.at (pieces (terms_of l.terms))
