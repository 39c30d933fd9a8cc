-- How tokens are spelled, and that a text which spells one is read so, whatever stands behind it.
use Rattle.std.specs.Prelude.{◌≡◌, ℕ, ◌+◌, ◌^◌, ◌<◌, Bool, true, false, List, [], ◌∷◌, ◌++◌, length, Some, ℤ, pos}
use Rattle.std.specs.List.{prefix_len}
use Rattle.std.specs.Char.{is_ascii_digit}
use Rattle.std.specs.Str.Parse.{digits_value}
use Rattle.nir_lex.specs.declared.token.TokenKind.{TokenKind}
use Rattle.nir_lex.specs.declared.token.TokenKind.TheVariants.{Word, Number, Name, Quoted, Punct, End}
use Rattle.nir_lex.specs.Classes.{is_blank, is_in_word, is_punctuation, is_word, begins}
use Rattle.nir_lex.specs.Reading.{token, with_first, tokens_from}

-- one or more bytes, all of a class
pub record IsRunOf (class : ℕ → Bool) (text : List ℕ) : Type 0 where
  pub some : 0 < length text
  pub all : prefix_len class text ≡ length text

-- decimal digits, whose value is within the limits
pub record IsDecimalOf (text : List ℕ) (value : ℤ) : Type 0 where
  pub digits : IsRunOf is_ascii_digit text
  pub value_is : value ≡ pos (digits_value 10 text)
  pub held : digits_value 10 text < 2 ^ 64

-- a text of the token's own bytes; 37 is `%`. Quoted texts, and other forms of numbers, are left out
abbrev pub Spells : TokenKind → List ℕ → Type 0
Spells Word text = is_word text ≡ true
Spells (Number value) text = IsDecimalOf text value
Spells Name text = (letters : List ℕ) × (text ≡ 37 ∷ letters) × IsRunOf is_in_word letters
Spells Quoted text = ⊥
Spells (Punct byte) text = (text ≡ byte ∷ []) × (is_punctuation byte ≡ true)
Spells End text = ⊥

-- the bytes behind do not lengthen a token
abbrev pub Stops : TokenKind → List ℕ → Type 0
Stops Word rest = begins is_in_word rest ≡ false
Stops (Number value) rest = begins is_in_word rest ≡ false
Stops Name rest = begins is_in_word rest ≡ false
Stops Quoted rest = Unit {0}
Stops (Punct byte) rest = Unit {0}
Stops End rest = Unit {0}

-- a spelled token is read, and reading goes on behind it
abbrev pub SpelledIsRead : Type 0
SpelledIsRead = (place : ℕ) (kind : TokenKind) (text rest : List ℕ) → Spells kind text → Stops kind rest → tokens_from place 0 (text ++ rest) ≡ with_first (Some (token place (place + length text) kind)) (tokens_from (place + length text) 0 rest)

-- a blank is passed over
abbrev pub BlanksArePassed : Type 0
BlanksArePassed = (place byte : ℕ) (rest : List ℕ) → is_blank byte ≡ true → tokens_from place 0 (byte ∷ rest) ≡ tokens_from (place + 1) 0 rest
