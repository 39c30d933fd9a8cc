-- whether the terms that are left are formed
use Rattle.std.proofs.Common.{◌≡◌, drop}
use Rattle.std.specs.List.{list_all}
use Rattle.rule_term.specs.Pieces.{pieces}
use Rattle.rule_term.specs.Terms.{terms_of}
use Rattle.law_derive.specs.Derivations.{piece_formed}
use Rattle.law_derive.proofs.expr.+formed.Given as goal

abbrev pub invariant-are_formed-loop-term : goal.invariant-are_formed-loop-term
invariant-are_formed-loop-term l = record {
  so_far : list_all piece_formed (pieces (terms_of (drop l.term-index l.terms))) ≡ list_all piece_formed (pieces (terms_of l.terms));
}
