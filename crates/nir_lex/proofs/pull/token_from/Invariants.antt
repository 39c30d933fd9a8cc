use Rattle.std.proofs.Common.{◌≡◌, ◌+◌, ◌≤◌, length, drop}
use Rattle.nir_lex.specs.Reading.{tokens_from}
use Rattle.nir_lex.specs.From.{tokens_at}
use Rattle.nir_lex.proofs.pull.token_from.Given as goal

-- the tokens of the rest are those from the place on
abbrev pub invariant-gaps : goal.invariant-gaps
invariant-gaps l = record {
  same : tokens_from l.start 0 l.rest ≡ tokens_at l.text l.place;
  rest : l.rest ≡ drop l.start l.text;
  behind : l.place ≤ l.start;
  whole : l.start + length l.rest ≡ length l.text;
}

abbrev pub decreases-gaps : goal.decreases-gaps
decreases-gaps l = length l.rest
