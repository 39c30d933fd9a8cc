use Rattle.std.proofs.Common.{◌≡◌, ◌+◌, length}
use Rattle.nir_lex.specs.Reading.{tokens_from, read_tokens}
use Rattle.nir_lex.specs.From.{fault_of}
use Rattle.nir_lex.proofs.pull.first_fault.Given as goal

-- the fault of the rest is that of the text
abbrev pub invariant-pieces : goal.invariant-pieces
invariant-pieces l = record {
  same : fault_of (tokens_from l.place 0 l.rest) ≡ fault_of (read_tokens l.text);
  place : l.place + length l.rest ≡ length l.text;
}

abbrev pub decreases-pieces : goal.decreases-pieces
decreases-pieces l = length l.rest
