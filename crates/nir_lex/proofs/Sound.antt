-- What holds of every piece: it stays within the bytes, and is a token as the laws of tokens want it.
use Rattle.std.proofs.Common.{◌≡◌, ℕ, zero, suc, ◌+◌, ◌^◌, ◌<◌, ◌≤◌, Bool, true, false, eqb, ltb, ◌&&◌, List, [], ◌∷◌, length, take, drop, Option, Some, None, Result, Ok, Err, ℤ, pos, negsuc, neg_ℤ, arith, length-drop}
use Rattle.std.specs.List.{prefix_len}
use Rattle.std.specs.Char.{is_ascii_digit, is_ascii_hexdigit}
use Rattle.std.specs.Str.Parse.{digits_value}
use Rattle.std.proofs.lemmas.Bool.{cond_both, eqb-false, ltb-true, and_parts, false≢true}
use Rattle.std.proofs.lemmas.Int.{ints}
use Rattle.std.proofs.lemmas.List.Sums.{prefix_len-le-length}
use Rattle.nir_lex.specs.declared.fault.LexFault.{LexFault}
use Rattle.nir_lex.specs.declared.fault.LexFault.TheVariants.{BadNumber}
use Rattle.nir_lex.specs.declared.token.TokenKind.{TokenKind}
use Rattle.nir_lex.specs.declared.token.TokenKind.TheVariants.{Number, End}
use Rattle.nir_lex.specs.declared.piece.Piece.{Piece}
use Rattle.nir_lex.specs.Classes.{starts_word, is_in_word, is_blank, is_in_comment, is_quote, is_inside_quotes, is_punctuation, begins}
use Rattle.nir_lex.specs.Numbers.{limited}
use Rattle.nir_lex.specs.Pieces.{token_piece, number_piece, decimal, hexadecimal, negative, unsigned, name, quoted, piece_at}
use Rattle.nir_lex.specs.From.{IsOfBytes}
use Rattle.nir_lex.specs.Laws.{IsInLimits, HasLimits, least_size}

-- the piece of a token that is large enough, and not the end
pub record IsSoundKind (tail : ℕ) (kind : TokenKind) : Type 0 where
  pub size : least_size kind ≤ 1 + tail
  pub limits : HasLimits kind
  pub no_end : kind ≡ End → ⊥

abbrev pub IfKind : ℕ → Option TokenKind → Type 0
IfKind tail None = Unit {0}
IfKind tail (Some kind) = IsSoundKind tail kind

-- a piece before so many bytes
pub record IsSound (room : ℕ) (piece : Piece) : Type 0 where
  pub within : piece.tail ≤ room
  pub kind : IfKind piece.tail piece.kind

abbrev pub AreSound : ℕ → Result Piece LexFault → Type 0
AreSound room (Ok piece) = IsSound room piece
AreSound room (Err fault) = IsOfBytes fault

-- a byte that begins what is left is a byte more
begins-drop : (class : ℕ → Bool) (count : ℕ) (bytes : List ℕ) → begins class (drop count bytes) ≡ true → count + 1 ≤ length bytes
begins-drop class zero [] is = absurd cc
begins-drop class zero (byte ∷ bytes) is = omega arith
begins-drop class (suc count) [] is = absurd cc
begins-drop class (suc count) (byte ∷ bytes) is = omega (arith, begins-drop class count bytes is)

abbrev IfLimited : Option ℤ → Type 0
IfLimited None = Unit {0}
IfLimited (Some value) = IsInLimits value

limited-is : (value : ℤ) → IfLimited (limited value)
unfolding limited
limited-is (pos size) = cond_both (ltb size (2 ^ 64)) (Some (pos size)) None IfLimited (λ is. let lt = ltb-true size (2 ^ 64) is in record { low = omega (arith, ints); high = omega (arith, ints, lt) }) (λ is. tt)
limited-is (negsuc size) = cond_both (ltb size (2 ^ 63)) (Some (negsuc size)) None IfLimited (λ is. let lt = ltb-true size (2 ^ 63) is in record { low = omega (arith, ints, lt); high = omega (arith, ints) }) (λ is. tt)

number_piece-sound : (place : ℕ) (value : Option ℤ) (tail : ℕ) (rest : List ℕ) → tail ≤ length rest → IfLimited value → AreSound (length rest) (number_piece place value tail rest)
unfolding number_piece
number_piece-sound place None tail rest within held = tt
number_piece-sound place (Some value) tail rest within held =
    cond_both (begins starts_word (drop tail rest)) (Err (BadNumber place)) (token_piece (Number value) tail) (AreSound (length rest)) (λ is. tt) (λ is. record { within = within; kind = record { size = omega arith; limits = held; no_end = λ same. absurd cc } })

decimal-sound : (place first : ℕ) (rest : List ℕ) → AreSound (length rest) (decimal place first rest)
unfolding decimal
decimal-sound place first rest =
    number_piece-sound place _ (prefix_len is_ascii_digit rest) rest (prefix_len-le-length is_ascii_digit rest) (limited-is (pos (digits_value 10 (first ∷ take (prefix_len is_ascii_digit rest) rest))))

negative-sound : (place : ℕ) (rest : List ℕ) → AreSound (length rest) (negative place rest)
unfolding negative
negative-sound place rest =
    cond_both (eqb (prefix_len is_ascii_digit rest) 0) _ _ (AreSound (length rest)) (λ is. tt) (λ is. number_piece-sound place _ (prefix_len is_ascii_digit rest) rest (prefix_len-le-length is_ascii_digit rest) (limited-is (neg_ℤ (pos (digits_value 10 (take (prefix_len is_ascii_digit rest) rest))))))

hexadecimal-sound : (place : ℕ) (rest : List ℕ) → 0 < length rest → AreSound (length rest) (hexadecimal place rest)
unfolding hexadecimal
hexadecimal-sound place rest room =
    let digits : List ℕ = drop 1 rest in
    let fits : 1 + prefix_len is_ascii_hexdigit digits ≤ length rest = omega (arith, prefix_len-le-length is_ascii_hexdigit digits, length-drop 1 rest) in
    cond_both (eqb (prefix_len is_ascii_hexdigit digits) 0) _ _ (AreSound (length rest)) (λ is. tt) (λ is. number_piece-sound place _ (1 + prefix_len is_ascii_hexdigit digits) rest fits (limited-is (pos (digits_value 16 (take (prefix_len is_ascii_hexdigit digits) digits)))))

unsigned-sound : (place first : ℕ) (rest : List ℕ) → AreSound (length rest) (unsigned place first rest)
unfolding unsigned
unsigned-sound place first [] = cond_both (eqb first 48 && false) _ _ (AreSound 0) (λ is. absurd (false≢true (and_parts (eqb first 48) false is).1)) (λ is. decimal-sound place first [])
unsigned-sound place first (byte ∷ rest) =
    cond_both (eqb first 48 && eqb byte 120) _ _ (AreSound (suc (length rest))) (λ is. hexadecimal-sound place (byte ∷ rest) (omega arith)) (λ is. decimal-sound place first (byte ∷ rest))

name-sound : (place : ℕ) (rest : List ℕ) → AreSound (length rest) (name place rest)
unfolding name
name-sound place rest =
    let count : ℕ = prefix_len is_in_word rest in
    cond_both (eqb count 0) _ _ (AreSound (length rest)) (λ is. tt) (λ is. let some = eqb-false count 0 is in record { within = prefix_len-le-length is_in_word rest; kind = record { size = omega (arith, some); limits = tt; no_end = λ same. absurd cc } })

quoted-sound : (place quote : ℕ) (rest : List ℕ) → AreSound (length rest) (quoted place quote rest)
unfolding quoted
quoted-sound place quote rest =
    let count : ℕ = prefix_len (is_inside_quotes quote) rest in
    cond_both (begins (λ byte. eqb byte quote) (drop count rest)) _ _ (AreSound (length rest)) (λ is. record { within = begins-drop (λ byte. eqb byte quote) count rest is; kind = record { size = omega arith; limits = tt; no_end = λ same. absurd cc } }) (λ is. tt)

pub piece_at-sound : (place first : ℕ) (rest : List ℕ) → AreSound (length rest) (piece_at place first rest)
unfolding piece_at
piece_at-sound place first rest =
    let sound : Result Piece LexFault → Type 0 = AreSound (length rest) in
    cond_both (is_blank first) _ _ sound (λ is. record { within = omega arith; kind = tt })
    (λ is. cond_both (eqb first 35) _ _ sound (λ is. record { within = prefix_len-le-length is_in_comment rest; kind = tt })
    (λ is. cond_both (starts_word first) _ _ sound (λ is. record { within = prefix_len-le-length is_in_word rest; kind = record { size = omega arith; limits = tt; no_end = λ same. absurd cc } })
    (λ is. cond_both (is_ascii_digit first) _ _ sound (λ is. unsigned-sound place first rest)
    (λ is. cond_both (eqb first 45) _ _ sound (λ is. negative-sound place rest)
    (λ is. cond_both (eqb first 37) _ _ sound (λ is. name-sound place rest)
    (λ is. cond_both (is_quote first) _ _ sound (λ is. quoted-sound place first rest)
    (λ is. cond_both (is_punctuation first) _ _ sound (λ is. record { within = omega arith; kind = record { size = omega arith; limits = tt; no_end = λ same. absurd cc } }) (λ is. tt))))))))
