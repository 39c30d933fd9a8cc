-- The rules of tokens: which piece of a text begins at a byte, taken as long as its class of bytes allows.
use Rattle.std.specs.Prelude.{ℕ, ◌+◌, ◌&&◌, ◌==◌, List, ◌∷◌, take, drop, ℤ, pos, neg_ℤ, Option, Some, None, Result, Ok, Err, if◌then◌else◌}
use Rattle.std.specs.List.{prefix_len}
use Rattle.std.specs.Char.{is_ascii_digit, is_ascii_hexdigit}
use Rattle.std.specs.Str.Parse.{digits_value}
use Rattle.nir_lex.specs.declared.fault.LexFault.{LexFault}
use Rattle.nir_lex.specs.declared.fault.LexFault.TheVariants.{BadByte, BadNumber}
use Rattle.nir_lex.specs.declared.token.TokenKind.{TokenKind}
use Rattle.nir_lex.specs.declared.token.TokenKind.TheVariants.{Word, Number, Name, Quoted, Punct}
use Rattle.nir_lex.specs.declared.piece.Piece.{Piece}
use Rattle.nir_lex.specs.Classes.{starts_word, is_in_word, is_blank, is_in_comment, is_quote, is_inside_quotes, is_punctuation, begins}
use Rattle.nir_lex.specs.Numbers.{limited}

-- a token whose first byte `tail` bytes follow
abbrev pub token_piece : TokenKind → ℕ → Result Piece LexFault
token_piece kind tail = Ok (record { kind = Some kind; tail = tail })

-- bytes that only separate
abbrev pub gap : ℕ → Result Piece LexFault
gap tail = Ok (record { kind = None; tail = tail })

-- A number that is too wide, or that a letter or `_` follows directly, is bad at its first byte.
-- Below, `rest` is always what follows the first byte, and `place` is where that byte stands.
unfoldable pub number_piece : ℕ → Option ℤ → ℕ → List ℕ → Result Piece LexFault
number_piece place None tail rest = Err (BadNumber place)
number_piece place (Some value) tail rest = if begins starts_word (drop tail rest) then Err (BadNumber place) else token_piece (Number value) tail

-- decimal digits
unfoldable pub decimal : ℕ → ℕ → List ℕ → Result Piece LexFault
decimal place first rest = let count = prefix_len is_ascii_digit rest in number_piece place (limited (pos (digits_value 10 (first ∷ take count rest)))) count rest

-- hexadecimal digits behind `0x`: one or more
unfoldable pub hexadecimal : ℕ → List ℕ → Result Piece LexFault
hexadecimal place rest = let digits = drop 1 rest in
    let count = prefix_len is_ascii_hexdigit digits in
    if count == 0 then Err (BadNumber place) else number_piece place (limited (pos (digits_value 16 (take count digits)))) (1 + count) rest

-- decimal digits behind a minus: one or more
unfoldable pub negative : ℕ → List ℕ → Result Piece LexFault
negative place rest = let count = prefix_len is_ascii_digit rest in
    if count == 0 then Err (BadByte place) else number_piece place (limited (neg_ℤ (pos (digits_value 10 (take count rest))))) count rest

-- `0x` begins a hexadecimal number, and any other digit a decimal one
unfoldable pub unsigned : ℕ → ℕ → List ℕ → Result Piece LexFault
unsigned place first rest = if first == 48 && begins (λ byte. byte == 120) rest then hexadecimal place rest else decimal place first rest

-- one or more bytes of a word behind `%`
unfoldable pub name : ℕ → List ℕ → Result Piece LexFault
name place rest = let count = prefix_len is_in_word rest in if count == 0 then Err (BadByte place) else token_piece Name count

-- what stands between two equal quotes; the first byte that cannot is bad, and so is the text's end
unfoldable pub quoted : ℕ → ℕ → List ℕ → Result Piece LexFault
quoted place quote rest = let count = prefix_len (is_inside_quotes quote) rest in
    if begins (λ byte. byte == quote) (drop count rest) then token_piece Quoted (count + 1) else Err (BadByte (place + 1 + count))

-- the piece that begins with this byte: 35 is `#`, 45 is `-`, and 37 is `%`
unfoldable pub piece_at : ℕ → ℕ → List ℕ → Result Piece LexFault
piece_at place first rest =
    if is_blank first then gap 0
    else (if first == 35 then gap (prefix_len is_in_comment rest)
    else (if starts_word first then token_piece Word (prefix_len is_in_word rest)
    else (if is_ascii_digit first then unsigned place first rest
    else (if first == 45 then negative place rest
    else (if first == 37 then name place rest
    else (if is_quote first then quoted place first rest
    else (if is_punctuation first then token_piece (Punct first) 0
    else Err (BadByte place))))))))
