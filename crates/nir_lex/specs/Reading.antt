-- The tokens of a whole text, piece by piece, or the first fault from the left.
use Rattle.std.specs.Prelude.{◌≡◌, ℕ, zero, suc, ◌+◌, List, [], ◌∷◌, Option, Some, None, Result, Ok, Err}
use Rattle.nir_lex.specs.declared.fault.LexFault.{LexFault}
use Rattle.nir_lex.specs.declared.fault.LexFault.TheVariants.{BadByte, BadNumber, OutOfMemory}
use Rattle.nir_lex.specs.declared.token.Token.{Token}
use Rattle.std.specs.Option.{option_map}
use Rattle.nir_lex.specs.declared.token.TokenKind.{TokenKind}
use Rattle.nir_lex.specs.declared.token.TokenKind.TheVariants.{End}
use Rattle.nir_lex.specs.declared.piece.Piece.{Piece}
use Rattle.nir_lex.specs.Pieces.{piece_at}

-- the end of a text of this length
abbrev pub end_token : ℕ → Token
end_token length = record { kind = End; start = length; end = length }

-- the token of a kind from a place to another
abbrev pub token : ℕ → ℕ → TokenKind → Token
token start end kind = record { kind = kind; start = start; end = end }

-- a token, where there is one, before those of the rest
abbrev pub with_first : Option Token → Result (List Token) LexFault → Result (List Token) LexFault
with_first None read = read
with_first (Some first) (Ok tokens) = Ok (first ∷ tokens)
with_first (Some first) (Err fault) = Err fault

-- a piece, where it is a token, before the tokens of what its tail leaves
abbrev pub piece_then : ℕ → Result Piece LexFault → (ℕ → Result (List Token) LexFault) → Result (List Token) LexFault
piece_then place (Err fault) others = Err fault
piece_then place (Ok piece) others = with_first (option_map (token place (place + 1 + piece.tail)) piece.kind) (others piece.tail)

-- the tokens of the bytes from this place on, of which a piece before still takes the first `skip`
abbrev pub tokens_from : ℕ → ℕ → List ℕ → Result (List Token) LexFault
tokens_from place skip [] = Ok (end_token place ∷ [])
tokens_from place (suc skip) (byte ∷ bytes) = tokens_from (place + 1) skip bytes
tokens_from place zero (byte ∷ bytes) = piece_then place (piece_at place byte bytes) (λ skip. tokens_from (place + 1) skip bytes)

-- the tokens of a text
unfoldable pub read_tokens : List ℕ → Result (List Token) LexFault
read_tokens text = tokens_from 0 0 text

-- an answer is what reading gives, unless memory ran out
abbrev pub Fails : LexFault → Result (List Token) LexFault → Type 0
Fails (BadByte place) read = read ≡ Err (BadByte place)
Fails (BadNumber place) read = read ≡ Err (BadNumber place)
Fails OutOfMemory read = Unit {0}

abbrev pub Gives : Result (List Token) LexFault → Result (List Token) LexFault → Type 0
Gives (Ok tokens) read = read ≡ Ok tokens
Gives (Err fault) read = Fails fault read
