-- The tokens of a text from a place on, for a reader that pulls them one by one.
use Rattle.std.specs.Prelude.{◌≡◌, ℕ, ◌≤◌, List, [], length, drop, Option, Some, None, Result, Ok, Err, if◌then◌else◌}
use Rattle.nir_lex.specs.declared.fault.LexFault.{LexFault}
use Rattle.nir_lex.specs.declared.fault.LexFault.TheVariants.{BadByte, BadNumber, OutOfMemory}
use Rattle.nir_lex.specs.declared.token.Token.{Token}
use Rattle.nir_lex.specs.Kinds.{is_end}
use Rattle.nir_lex.specs.Reading.{with_first, tokens_from, read_tokens}
use Rattle.nir_lex.specs.Laws.{IsWithin}

-- the tokens of what a text has from a place on
abbrev pub tokens_at : List ℕ → ℕ → Result (List Token) LexFault
tokens_at text place = tokens_from place 0 (drop place text)

-- the tokens behind one: those from its end on, and none behind the end of the text
abbrev pub tokens_behind : List ℕ → Token → Result (List Token) LexFault
tokens_behind text token = if is_end token.kind then Ok [] else tokens_at text token.end

-- a token is the first of those from a place on, and stands in the text
pub record IsFirstFrom (text : List ℕ) (place : ℕ) (token : Token) : Type 0 where
  pub first : tokens_at text place ≡ with_first (Some token) (tokens_behind text token)
  pub behind : place ≤ token.start
  pub within : IsWithin (length text) token

-- the fault of a text that has no tokens
abbrev pub fault_of : Result (List Token) LexFault → Option LexFault
fault_of (Ok tokens) = None
fault_of (Err fault) = Some fault

-- a fault that the bytes of a text have, and not memory
abbrev pub IsOfBytes : LexFault → Type 0
IsOfBytes (BadByte place) = Unit {0}
IsOfBytes (BadNumber place) = Unit {0}
IsOfBytes OutOfMemory = ⊥

-- the tokens of a text are those from its start on
abbrev pub TokensAreFromStart : Type 0
TokensAreFromStart = (text : List ℕ) → read_tokens text ≡ tokens_at text 0
