-- The terminals of grammars, which are the tokens of a text wherever they stand, and classes of terminals, as the FIRST sets of an LL(1) grammar hold them.
use Rattle.std.specs.Prelude.{ℕ, Bool, true, false, not, ◌&&◌, ◌||◌, ◌==◌, List, [], ◌∷◌}
use Rattle.std.specs.Str.{bytes_eq}
use Rattle.nir_lex.specs.declared.token.TokenKind.{TokenKind}
use Rattle.nir_lex.specs.declared.token.TokenKind.TheVariants.{Word, Number, Name, Quoted, Punct, End}

-- what a token is, and its bytes
pub record Terminal : Type 0 where
  pub kind : TokenKind
  pub text : List ℕ

-- this word, any word but these, this mark of punctuation, any number, name or quoted text, the end of the text
pub data Class : Type 0 where
  TheWord : List ℕ → Class
  WordBut : List (List ℕ) → Class
  TheMark : ℕ → Class
  ANumber : Class
  AName : Class
  AQuoted : Class
  TheEnd : Class

-- whether it is one of these words
abbrev pub is_among : List ℕ → List (List ℕ) → Bool
is_among word [] = false
is_among word (other ∷ others) = bytes_eq word other || is_among word others

-- whether each of the first is one of the second
abbrev pub all_among : List (List ℕ) → List (List ℕ) → Bool
all_among [] others = true
all_among (word ∷ words) others = is_among word others && all_among words others

-- whether what a token is and its bytes are in the class
abbrev pub kind_has : Class → TokenKind → List ℕ → Bool
kind_has (TheWord word) Word text = bytes_eq text word
kind_has (WordBut words) Word text = not (is_among text words)
kind_has (TheMark mark) (Punct byte) text = byte == mark
kind_has ANumber (Number value) text = true
kind_has AName Name text = true
kind_has AQuoted Quoted text = true
kind_has TheEnd End text = true
kind_has _ _ text = false

abbrev pub has : Class → Terminal → Bool
has class terminal = kind_has class terminal.kind terminal.text

-- whether no terminal is in both
abbrev pub apart : Class → Class → Bool
apart (TheWord word) (TheWord other) = not (bytes_eq word other)
apart (TheWord word) (WordBut words) = is_among word words
apart (WordBut words) (TheWord word) = is_among word words
apart (WordBut words) (WordBut others) = false
apart (TheMark mark) (TheMark other) = not (mark == other)
apart ANumber ANumber = false
apart AName AName = false
apart AQuoted AQuoted = false
apart TheEnd TheEnd = false
apart _ _ = true

-- whether each terminal of the first is in the second, as far as their forms show
abbrev pub included : Class → Class → Bool
included (TheWord word) (TheWord other) = bytes_eq word other
included (TheWord word) (WordBut words) = not (is_among word words)
included (WordBut words) (WordBut others) = all_among others words
included (TheMark mark) (TheMark other) = mark == other
included ANumber ANumber = true
included AName AName = true
included AQuoted AQuoted = true
included TheEnd TheEnd = true
included _ _ = false

-- ---- several classes

-- whether the terminal is in one of them
abbrev pub holds : List Class → Terminal → Bool
holds [] terminal = false
holds (class ∷ classes) terminal = has class terminal || holds classes terminal

-- whether the text begins with one of them
abbrev pub starts : List Class → List Terminal → Bool
starts classes [] = false
starts classes (terminal ∷ text) = holds classes terminal

abbrev pub apart_from : Class → List Class → Bool
apart_from class [] = true
apart_from class (other ∷ others) = apart class other && apart_from class others

-- whether no terminal is in one of the first and one of the second
abbrev pub all_apart : List Class → List Class → Bool
all_apart [] others = true
all_apart (class ∷ classes) others = apart_from class others && all_apart classes others

abbrev pub included_in : Class → List Class → Bool
included_in class [] = false
included_in class (other ∷ others) = included class other || included_in class others

-- whether each terminal of the first is in one of the second, as far as their forms show
abbrev pub all_included : List Class → List Class → Bool
all_included [] others = true
all_included (class ∷ classes) others = included_in class others && all_included classes others
