-- The tokens of a text as its grammar sees them: what each is, its bytes, and where it stands.
use Rattle.std.specs.Prelude.{ℕ, Bool, false, true, ◌&&◌, List, [], ◌∷◌, map, ℤ, Option, Some, None, slice_range}
use Rattle.std.specs.Str.{bytes_eq}
use Rattle.nir_lex.specs.declared.token.Token.{Token}
use Rattle.nir_lex.specs.declared.token.TokenKind.{TokenKind}
use Rattle.nir_lex.specs.declared.token.TokenKind.TheVariants.{Word, Number, Name, Quoted, Punct, End}
use Rattle.nir_lex.specs.Kinds as token_kind

pub record Sign : Type 0 where
  pub kind : TokenKind
  pub text : List ℕ
  pub place : ℕ

-- a token of this text
abbrev pub sign_of : List ℕ → Token → Sign
sign_of text token = record { kind = token.kind; text = slice_range text token.start token.end; place = token.start }

abbrev pub signs_of : List ℕ → List Token → List Sign
signs_of text tokens = map (sign_of text) tokens

-- the bytes of a word
abbrev pub word_of_kind : TokenKind → List ℕ → Option (List ℕ)
word_of_kind Word text = Some text
word_of_kind (Number value) text = None
word_of_kind Name text = None
word_of_kind Quoted text = None
word_of_kind (Punct byte) text = None
word_of_kind End text = None

abbrev pub word_of : Sign → Option (List ℕ)
word_of sign = word_of_kind sign.kind sign.text

-- the bytes of a name
abbrev pub name_of_kind : TokenKind → List ℕ → Option (List ℕ)
name_of_kind Word text = None
name_of_kind (Number value) text = None
name_of_kind Name text = Some text
name_of_kind Quoted text = None
name_of_kind (Punct byte) text = None
name_of_kind End text = None

abbrev pub name_of : Sign → Option (List ℕ)
name_of sign = name_of_kind sign.kind sign.text

-- the value of a number
abbrev pub number_of_kind : TokenKind → Option ℤ
number_of_kind Word = None
number_of_kind (Number value) = Some value
number_of_kind Name = None
number_of_kind Quoted = None
number_of_kind (Punct byte) = None
number_of_kind End = None

-- whether it is this mark of punctuation
abbrev pub is_mark : ℕ → Sign → Bool
is_mark mark sign = token_kind.is_mark mark sign.kind

-- whether it is a name
abbrev pub kind_is_name : TokenKind → Bool
kind_is_name Word = false
kind_is_name (Number value) = false
kind_is_name Name = true
kind_is_name Quoted = false
kind_is_name (Punct byte) = false
kind_is_name End = false

-- whether it is this word
abbrev pub kind_is_word : TokenKind → Bool
kind_is_word Word = true
kind_is_word (Number value) = false
kind_is_word Name = false
kind_is_word Quoted = false
kind_is_word (Punct byte) = false
kind_is_word End = false

abbrev pub is_word : List ℕ → Sign → Bool
is_word word sign = kind_is_word sign.kind && bytes_eq sign.text word

-- what stands behind the last token
abbrev pub nothing : Sign
nothing = record { kind = End; text = []; place = 0 }

abbrev pub first_of : List Sign → Sign
first_of [] = nothing
first_of (sign ∷ signs) = sign
