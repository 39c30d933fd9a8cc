use Rattle.std.proofs.Common.{◌≡◌, drop}
use Rattle.std.specs.List.{list_any}
use Rattle.rule_term.specs.Pieces.{pieces}
use Rattle.rule_term.specs.Terms.{terms_of}
use Rattle.law_derive.specs.Asking.{piece_asks}
use Rattle.law_derive.proofs.cond.+asks.Given as goal

-- whether the variable stands so in the terms that are left
abbrev pub invariant-asks_in_terms-loop-term : goal.invariant-asks_in_terms-loop-term
invariant-asks_in_terms-loop-term l = record {
  so_far : list_any (piece_asks l.cond l.var) (pieces (terms_of (drop l.term-index l.terms))) ≡ list_any (piece_asks l.cond l.var) (pieces (terms_of l.terms));
}
