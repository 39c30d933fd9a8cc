use Rattle.std.proofs.Common.{◌≡◌, ◌+◌, length}
use Rattle.nir_lex.specs.Reading.{tokens_from, read_tokens}
use Rattle.nir_lex.proofs.Steps.{with_front}
use Rattle.nir_lex.proofs.lexer.all_tokens.Given as goal

-- the tokens so far before those of the rest are all tokens
abbrev pub invariant-pieces : goal.invariant-pieces
invariant-pieces l = record {
  so_far : with_front l.list (tokens_from l.place 0 l.rest) ≡ read_tokens l.text;
  place : l.place + length l.rest ≡ length l.text;
}

abbrev pub decreases-pieces : goal.decreases-pieces
decreases-pieces l = length l.rest
