-- The words in which productions are written: sequences, choices, marks, lists with commas, as in extended Backus-Naur form.
use Rattle.std.specs.Prelude.{ℕ, ℤ, pos, List, [], ◌∷◌, Option, Some, None, Result, Ok, Err}
use Rattle.nir_lex.specs.declared.token.TokenKind.{TokenKind}
use Rattle.nir_lex.specs.declared.token.TokenKind.TheVariants.{Word, Number, Name, Quoted, Punct, End}
use Rattle.grammar.specs.Terminals.{Class, TheWord, TheMark, ANumber, TheEnd}
use Rattle.grammar.specs.Lookahead.{Lookahead, nothing, one, ◌⨟◌, ◌∪◌, star}
use Rattle.grammar.specs.Grammar.{Vocabulary, Grammar, empty, terminal, sequence, choice, repetition}

infixl 10 ◌>>=◌
abbrev pub ◌>>=◌ : {voc : Vocabulary} {p q : Lookahead} {A B : Type 0} → Grammar voc p A → (A → Grammar voc q B) → Grammar voc (p ⨟ q) B
◌>>=◌ = sequence

infixl 10 ◌>>◌
abbrev pub ◌>>◌ : {voc : Vocabulary} {p q : Lookahead} {A B : Type 0} → Grammar voc p A → Grammar voc q B → Grammar voc (p ⨟ q) B
◌>>◌ g h = sequence g (λ a. h)

infixr 8 ◌or◌
abbrev pub ◌or◌ : {voc : Vocabulary} {p q : Lookahead} {A : Type 0} → Grammar voc p A → Grammar voc q A → Grammar voc (p ∪ q) A
◌or◌ = choice

-- the value of a number, and 0 of what is none
abbrev pub number_of : TokenKind → ℤ
number_of Word = pos 0
number_of (Number value) = value
number_of Name = pos 0
number_of Quoted = pos 0
number_of (Punct byte) = pos 0
number_of End = pos 0

-- what a terminal gives, or the fault where it gives nothing
abbrev pub given : {A S F : Type 0} → F → S → Option A → Result (A × S) F
given fault x None = Err fault
given fault x (Some a) = Ok (a, x)

module _ (voc : Vocabulary) where
  -- any terminal of a class
  abbrev pub any : (class : Class) → Grammar voc (one class) (Unit {0})
  any class = terminal class (λ x first. Ok (tt, x))

  abbrev pub word : (text : List ℕ) → Grammar voc (one (TheWord text)) (Unit {0})
  word text = any (TheWord text)

  abbrev pub mark : (byte : ℕ) → Grammar voc (one (TheMark byte)) (Unit {0})
  mark byte = any (TheMark byte)

  abbrev pub end : Grammar voc (one TheEnd) (Unit {0})
  end = any TheEnd

  -- the bytes of a terminal of a class
  abbrev pub bytes : (class : Class) → Grammar voc (one class) (List ℕ)
  bytes class = terminal class (λ x first. Ok (first.text, x))

  -- a terminal of a class whose bytes give something
  abbrev pub bytes_as : {A : Type 0} → (class : Class) → (List ℕ → Option A) → Grammar voc (one class) A
  bytes_as class give = terminal class (λ x first. given voc.expected x (give first.text))

  -- a number that gives something
  abbrev pub number_as : {A : Type 0} → (ℤ → Option A) → Grammar voc (one ANumber) A
  number_as give = terminal ANumber (λ x first. given voc.expected x (give (number_of first.kind)))

  -- an item, or none
  abbrev pub optional : {p : Lookahead} {A : Type 0} → Grammar voc p A → Grammar voc ((p ⨟ nothing) ∪ nothing) (Option A)
  optional item = choice (sequence item (λ a. empty (Some a))) (empty None)

  -- any number of items
  abbrev pub each : {p : Lookahead} {A : Type 0} → Grammar voc p A → Grammar voc (star (p ⨟ nothing)) (List A)
  each item = repetition (sequence item (λ a. empty (Some a)))

  -- any number of items, each behind a comma
  abbrev pub each_behind_comma : {p : Lookahead} {A : Type 0} → Grammar voc p A → Grammar voc (star (one (TheMark 44) ⨟ p ⨟ nothing)) (List A)
  each_behind_comma item = repetition (sequence (mark 44) (λ _. sequence item (λ a. empty (Some a))))

  -- any number of items, each behind a comma, and maybe a comma behind them
  abbrev pub each_behind_comma_then_maybe_one : {p : Lookahead} {A : Type 0} → Grammar voc p A
      → Grammar voc (star (one (TheMark 44) ⨟ ((p ⨟ nothing) ∪ nothing))) (List A)
  each_behind_comma_then_maybe_one item = repetition (sequence (mark 44) (λ _. optional item))

  -- one item at least, with commas between them
  abbrev pub separated : {p : Lookahead} {A : Type 0} → Grammar voc p A → Grammar voc (p ⨟ star (one (TheMark 44) ⨟ p ⨟ nothing) ⨟ nothing) (List A)
  separated item = sequence item (λ first. sequence (each_behind_comma item) (λ others. empty (first ∷ others)))

  -- one item at least, with commas between them, and maybe a comma behind them
  abbrev pub listed : {p : Lookahead} {A : Type 0} → Grammar voc p A
      → Grammar voc (p ⨟ star (one (TheMark 44) ⨟ ((p ⨟ nothing) ∪ nothing)) ⨟ nothing) (List A)
  listed item = sequence item (λ first. sequence (each_behind_comma_then_maybe_one item) (λ others. empty (first ∷ others)))

  -- these items, or none
  abbrev pub maybe_none : {p : Lookahead} {A : Type 0} → Grammar voc p (List A) → Grammar voc (p ∪ nothing) (List A)
  maybe_none items = choice items (empty [])

  -- what stands between two marks
  abbrev pub between : {p : Lookahead} {A : Type 0} → (opening closing : ℕ) → Grammar voc p A
      → Grammar voc (one (TheMark opening) ⨟ p ⨟ one (TheMark closing) ⨟ nothing) A
  between opening closing inner = sequence (mark opening) (λ _. sequence inner (λ a. sequence (mark closing) (λ _. empty a)))
