-- The lexemes of a text, which are its tokens wherever they stand, and grammars over them: what a list of lexemes begins with, before what stands behind that.
use Rattle.std.specs.Prelude.{◌≡◌, ℕ, ◌^◌, ◌<◌, List, [], ◌∷◌, map, pos}
use Rattle.nir_lex.specs.declared.token.TokenKind.{TokenKind}
use Rattle.nir_lex.specs.declared.token.TokenKind.TheVariants.{Word, Number, Punct, End}
use Rattle.nir_text.specs.Signs.{Sign}

-- what a token is, and its bytes
pub record Lexeme : Type 0 where
  pub kind : TokenKind
  pub text : List ℕ

abbrev pub lexeme_of : Sign → Lexeme
lexeme_of sign = record { kind = sign.kind; text = sign.text }

abbrev pub lexemes_of : List Sign → List Lexeme
lexemes_of signs = map lexeme_of signs

-- what may be asked of one lexeme, and of all from some place of a text on
abbrev pub Form : Type 1
Form = Lexeme → Type 0

abbrev pub Behind : Type 1
Behind = List Lexeme → Type 0

-- a part of a grammar: the lexemes are this part, and then what stands behind it
abbrev pub Part : Type 1
Part = Behind → List Lexeme → Type 0

-- one lexeme of this form, and then what stands behind it
infixr 10 ◌▹◌
abbrev pub ◌▹◌ : Form → Behind → List Lexeme → Type 0
(form ▹ behind) [] = ⊥
(form ▹ behind) (lexeme ∷ lexemes) = form lexeme × behind lexemes

-- no lexeme
abbrev pub Nothing : Behind
Nothing lexemes = lexemes ≡ []

-- ---- forms of one lexeme

-- this word
abbrev pub IsWord : List ℕ → Form
IsWord text lexeme = (lexeme.kind ≡ Word) × (lexeme.text ≡ text)

-- this mark of punctuation
abbrev pub IsMark : ℕ → Form
IsMark byte lexeme = lexeme.kind ≡ Punct byte

-- a number of 32 bits, however it is written
abbrev pub IsIndex : ℕ → Form
IsIndex n lexeme = (lexeme.kind ≡ Number (pos n)) × (n < 2 ^ 32)

-- the end of the text
abbrev pub IsEnd : Form
IsEnd lexeme = lexeme.kind ≡ End

-- ---- repetition

module _ {A : Type 0} (part : A → Part) where
  -- one after another
  abbrev pub Each : List A → Part
  Each [] behind = behind
  Each (item ∷ items) behind = part item (Each items behind)

  -- each behind a comma
  abbrev pub EachBehindComma : List A → Part
  EachBehindComma [] behind = behind
  EachBehindComma (item ∷ items) behind = IsMark 44 ▹ part item (EachBehindComma items behind)

  -- with commas between them
  abbrev pub Separated : List A → Part
  Separated [] behind = behind
  Separated (item ∷ items) behind = part item (EachBehindComma items behind)
