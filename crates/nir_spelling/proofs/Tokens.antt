-- What a token is by its kind, and lists of lexemes that begin with one of some form.
use Rattle.std.proofs.Common.{◌≡◌, ℕ, ◌+◌, ◌≤◌, true, false, ◌&&◌, List, [], ◌∷◌, length, drop, ℤ, Some, refl, ap, ◌∙◌, arith, eqb-true, eq-eqb}
use Rattle.std.specs.Str.{bytes_eq}
use Rattle.std.proofs.lemmas.Bool.{and_parts}
use Rattle.std.proofs.lemmas.Option.{same_Some}
use Rattle.nir_lex.specs.declared.token.TokenKind.{TokenKind}
use Rattle.nir_lex.specs.declared.token.TokenKind.TheVariants.{Word, Number, Name, Quoted, Punct, End}
use Rattle.nir_lex.specs.Kinds as token_kind
use Rattle.nir_text.specs.Signs.{Sign, word_of, word_of_kind, name_of, name_of_kind, number_of_kind, kind_is_name, kind_is_word, is_word, first_of}
use Rattle.nir_spelling.specs.Lexemes.{lexeme_of, lexemes_of, Form, Behind, Part, ◌▹◌, IsWord}
use Rattle.nir_spelling.proofs.Names.{bytes_same, bytes_eq-refl}

-- ---- kinds

pub mark_kind : (byte : ℕ) (kind : TokenKind) → token_kind.is_mark byte kind ≡ true → kind ≡ Punct byte
mark_kind byte Word e = absurd cc
mark_kind byte (Number value) e = absurd cc
mark_kind byte Name e = absurd cc
mark_kind byte Quoted e = absurd cc
mark_kind byte (Punct other) e = ap Punct (eqb-true other byte e)
mark_kind byte End e = absurd cc

pub kind_mark : (byte : ℕ) (kind : TokenKind) → kind ≡ Punct byte → token_kind.is_mark byte kind ≡ true
kind_mark byte kind e = ap (token_kind.is_mark byte) e ∙ eq-eqb byte byte refl

pub word_kind : (kind : TokenKind) (text word : List ℕ) → word_of_kind kind text ≡ Some word → (kind ≡ Word) × (text ≡ word)
word_kind Word text word e = (refl, same_Some text word e)
word_kind (Number value) text word e = absurd cc
word_kind Name text word e = absurd cc
word_kind Quoted text word e = absurd cc
word_kind (Punct other) text word e = absurd cc
word_kind End text word e = absurd cc

pub kind_word_of : (sign : Sign) (word : List ℕ) → sign.kind ≡ Word → sign.text ≡ word → word_of sign ≡ Some word
kind_word_of sign word kind text = ap (λ k. word_of_kind k sign.text) kind ∙ ap Some text

pub name_kind : (kind : TokenKind) (text name : List ℕ) → name_of_kind kind text ≡ Some name → (kind ≡ Name) × (text ≡ name)
name_kind Word text name e = absurd cc
name_kind (Number value) text name e = absurd cc
name_kind Name text name e = (refl, same_Some text name e)
name_kind Quoted text name e = absurd cc
name_kind (Punct other) text name e = absurd cc
name_kind End text name e = absurd cc

pub kind_name_of : (sign : Sign) → sign.kind ≡ Name → name_of sign ≡ Some sign.text
kind_name_of sign kind = ap (λ k. name_of_kind k sign.text) kind

pub number_kind : (kind : TokenKind) (value : ℤ) → number_of_kind kind ≡ Some value → kind ≡ Number value
number_kind Word value e = absurd cc
number_kind (Number other) value e = ap Number (same_Some other value e)
number_kind Name value e = absurd cc
number_kind Quoted value e = absurd cc
number_kind (Punct other) value e = absurd cc
number_kind End value e = absurd cc

is_word_kind : (kind : TokenKind) → kind_is_word kind ≡ true → kind ≡ Word
is_word_kind Word e = refl
is_word_kind (Number value) e = absurd cc
is_word_kind Name e = absurd cc
is_word_kind Quoted e = absurd cc
is_word_kind (Punct other) e = absurd cc
is_word_kind End e = absurd cc

pub is_name : (kind : TokenKind) → kind_is_name kind ≡ true → kind ≡ Name
is_name Word e = absurd cc
is_name (Number value) e = absurd cc
is_name Name e = refl
is_name Quoted e = absurd cc
is_name (Punct other) e = absurd cc
is_name End e = absurd cc

-- the test for a word, and its form
pub word_form : (word : List ℕ) (sign : Sign) → is_word word sign ≡ true → IsWord word (lexeme_of sign)
word_form word sign e =
    let parts = and_parts (kind_is_word sign.kind) (bytes_eq sign.text word) e in
    (is_word_kind sign.kind parts.0, bytes_same sign.text word parts.1)

pub form_word : (word : List ℕ) (sign : Sign) → IsWord word (lexeme_of sign) → is_word word sign ≡ true
form_word word sign is = ap (λ k. kind_is_word k && bytes_eq sign.text word) is.0 ∙ ap (λ t. bytes_eq t word) is.1 ∙ bytes_eq-refl word

-- the test for another word
pub form_other_word : (word other : List ℕ) (sign : Sign) → IsWord word (lexeme_of sign) → bytes_eq word other ≡ false → is_word other sign ≡ false
form_other_word word other sign is differs = ap (λ k. kind_is_word k && bytes_eq sign.text other) is.0 ∙ ap (λ t. bytes_eq t other) is.1 ∙ differs

-- ---- lists that begin with a token

-- a token that is not the end of the text is there
pub is_there : (signs : List Sign) → token_kind.is_end (first_of signs).kind ≡ false → 1 ≤ length signs
is_there [] e = absurd cc
is_there (sign ∷ signs) e = omega arith

pub there_by_kind : (signs : List Sign) (kind : TokenKind) → (first_of signs).kind ≡ kind → token_kind.is_end kind ≡ false → 1 ≤ length signs
there_by_kind signs kind same e = is_there signs (ap token_kind.is_end same ∙ e)

pub length-drop1 : (signs : List Sign) → 1 ≤ length signs → length (drop 1 signs) + 1 ≡ length signs
length-drop1 [] some = absurd (omega arith)
length-drop1 (sign ∷ signs) some = omega arith

abbrev pub One : Form → Part
One form behind = form ▹ behind

pub begins : (form : Form) (behind : Behind) (signs : List Sign) → 1 ≤ length signs → form (lexeme_of (first_of signs)) → behind (lexemes_of (drop 1 signs)) → (form ▹ behind) (lexemes_of signs)
begins form behind [] some is rest = absurd (omega arith)
begins form behind (sign ∷ signs) some is rest = (is, rest)

pub record Begins (form : Form) (behind : Behind) (signs : List Sign) : Type 0 where
  pub some : 1 ≤ length signs
  pub is : form (lexeme_of (first_of signs))
  pub left : behind (lexemes_of (drop 1 signs))

pub begun : (form : Form) (behind : Behind) (signs : List Sign) → (form ▹ behind) (lexemes_of signs) → Begins form behind signs
begun form behind [] h = absurd h
begun form behind (sign ∷ signs) h = record { some = omega arith; is = h.0; left = h.1 }
