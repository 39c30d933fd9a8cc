-- The lexemes of texts that are put together: each part of a text gives a part of a grammar, before whatever stands behind it.
use Rattle.std.specs.Prelude.{◌≡◌, refl, ⊤, ℕ, suc, ◌+◌, ◌-◌, ◌^◌, ◌<◌, Bool, true, false, List, [], ◌∷◌, ◌++◌, map, length, take, drop, Some, Ok, pos, decimal}
use Rattle.std.specs.List.{slice_range, flat_map, prefix_len, AllByRecursion}
use Rattle.std.specs.Char.{is_ascii_digit, digit_value}
use Rattle.std.specs.Str.Parse.{AllDigits}
use Rattle.std.proofs.Common.{sym, ◌∙◌, ap, subst, append_assoc, arith}
use Rattle.std.proofs.lemmas.Bool.{eq-eqb}
use Rattle.std.proofs.lemmas.Bool.Decides.{nat_tests}
use Rattle.std.proofs.lemmas.Fmt.{decimal_is_IsNumeral}
use Rattle.std.proofs.lemmas.Str.Parse.{digit_from_value}
use Rattle.std.proofs.lemmas.List.{take_at, drop_at, length-append}
use Rattle.nir_lex.specs.declared.token.Token.{Token}
use Rattle.nir_lex.specs.declared.token.TokenKind.{TokenKind}
use Rattle.nir_lex.specs.declared.token.TokenKind.TheVariants.{Word, Number, Name, Punct, End}
use Rattle.nir_lex.specs.Classes.{is_blank, is_in_word, is_punctuation, is_word, starts_word, begins}
use Rattle.nir_lex.specs.Reading.{end_token, token, with_first, tokens_from}
use Rattle.nir_lex.specs.Spelling.{Spells, Stops, IsDecimalOf, SpelledIsRead, BlanksArePassed}
use Rattle.nir_text.specs.Signs.{signs_of}
use Rattle.nir_spelling.specs.Lexemes.{Lexeme, Form, Behind, Part, ◌▹◌, Nothing, IsMark, IsEnd, lexemes_of, Each}

-- how tokens are read
pub record Lexing : Type 0 where
  pub spelled : SpelledIsRead
  pub blanks : BlanksArePassed

-- behind whatever stands before them, the bytes have these lexemes
abbrev pub AreLexemes : List ℕ → List Lexeme → Type 0
AreLexemes rest lexemes = (front : List ℕ) → (tokens : List Token) × (tokens_from (length front) 0 rest ≡ Ok tokens) × (lexemes_of (signs_of (front ++ rest) tokens) ≡ lexemes)

-- the bytes have lexemes that are so
pub record Gives (rest : List ℕ) (behind : Behind) : Type 0 where
  pub lexemes : List Lexeme
  pub read : AreLexemes rest lexemes
  pub are : behind lexemes

-- what bytes must be to stand behind others
abbrev pub Needs : Type 1
Needs = List ℕ → Type 0

abbrev pub Any : Needs
Any rest = ⊤

-- they don't lengthen a word
abbrev pub Stop : Needs
Stop rest = begins is_in_word rest ≡ false

-- before bytes that are as needed, the text gives this part of a grammar
pub record Prints (needs : Needs) (text : List ℕ) (part : Part) : Type 1 where
  pub before : (rest : List ℕ) (behind : Behind) → needs rest → Gives rest behind → Gives (text ++ rest) (part behind)

-- the end of a text
end_text : (place : ℕ) (text : List ℕ) → slice_range text place place ≡ []
end_text place text = let none : place - place ≡ 0 = omega arith in rw none refl

pub end_gives : Gives [] (IsEnd ▹ Nothing)
end_gives =
    record {
      lexemes = record { kind = End; text = [] } ∷ [];
      read = λ front. (end_token (length front) ∷ [], refl, ap (λ t. record { kind = End; text = t } ∷ []) (end_text (length front) (front ++ [])));
      are = (refl, refl);
    }

-- the text of a token that stands between others
token_text : (front text rest : List ℕ) → slice_range (front ++ (text ++ rest)) (length front) (length front + length text) ≡ text
token_text front text rest =
    let long : length front + length text - length front ≡ length text = omega arith in
    ap (λ n. take n (drop (length front) (front ++ (text ++ rest)))) long
    ∙ ap (take (length text)) (drop_at front (text ++ rest) (length front) refl)
    ∙ take_at text rest (length text) refl

-- runs of digits
all_run : (class : ℕ → Bool) (bytes : List ℕ) → AllByRecursion (λ byte. class byte ≡ true) bytes → prefix_len class bytes ≡ length bytes
all_run class [] all = refl
all_run class (byte ∷ bytes) all = rw (all.0, all_run class bytes all.1) (omega arith)

is_digit : (c : ℕ) → digit_value c < 10 → is_ascii_digit c ≡ true
is_digit c h = let range = digit_from_value c h in grind (arith, nat_tests)

are_digits : (digits : List ℕ) → AllDigits 10 digits → AllByRecursion (λ c. is_ascii_digit c ≡ true) digits
are_digits [] all = tt
are_digits (c ∷ digits) all = (is_digit c all.0, are_digits digits all.1)

digit_in_word : (byte : ℕ) → is_ascii_digit byte ≡ true → is_in_word byte ≡ true
unfolding is_in_word
digit_in_word byte is = rw is refl

are_in_word : (digits : List ℕ) → AllDigits 10 digits → AllByRecursion (λ c. is_in_word c ≡ true) digits
are_in_word [] all = tt
are_in_word (c ∷ digits) all = (digit_in_word c (is_digit c all.0), are_in_word digits all.1)

pub decimal_in_word : (n : ℕ) → n < 2 ^ 64 → AllByRecursion (λ c. is_in_word c ≡ true) (decimal n)
decimal_in_word n held = are_in_word (decimal n) (decimal_is_IsNumeral n held).0.1

spells_number : (n : ℕ) → n < 2 ^ 64 → IsDecimalOf (decimal n) (pos n)
spells_number n held =
    let numeral = decimal_is_IsNumeral n held in
    record {
      digits = record { some = numeral.0.0; all = all_run is_ascii_digit (decimal n) (are_digits (decimal n) numeral.0.1) };
      value_is = ap pos (sym numeral.1);
      held = omega (arith, numeral.1);
    }

spells_name : (k : ℕ) → k < 2 ^ 64 → Spells Name (37 ∷ decimal k)
spells_name k held =
    let numeral = decimal_is_IsNumeral k held in
    (decimal k, refl, record { some = numeral.0.0; all = all_run is_in_word (decimal k) (are_in_word (decimal k) numeral.0.1) })

-- a word: a byte that starts it, and others
pub is_word-cons : (byte : ℕ) (bytes : List ℕ) → starts_word byte ≡ true → is_in_word byte ≡ true → AllByRecursion (λ c. is_in_word c ≡ true) bytes → is_word (byte ∷ bytes) ≡ true
unfolding is_word
is_word-cons byte bytes starts inside all = rw (starts, all_run is_in_word (byte ∷ bytes) (inside, all)) (eq-eqb (suc (length bytes)) (suc (length bytes)) refl)

pub is_word-block : (k : ℕ) → k < 2 ^ 64 → is_word (98 ∷ decimal k) ≡ true
unfolding starts_word is_in_word
is_word-block k held = is_word-cons 98 (decimal k) refl refl (decimal_in_word k held)

module _ (lexing : Lexing) where
  blank_gives : (byte : ℕ) (rest : List ℕ) (behind : Behind) → is_blank byte ≡ true → Gives rest behind → Gives (byte ∷ rest) behind
  blank_gives byte rest behind is gives =
      record {
        lexemes = gives.lexemes;
        read = λ front.
            let tokens = gives.read (front ++ byte ∷ []) in
            let long : length front + 1 ≡ length (front ++ byte ∷ []) = omega (arith, length-append front (byte ∷ [])) in
            (tokens.0, lexing.blanks (length front) byte rest is ∙ ap (λ n. tokens_from n 0 rest) long ∙ tokens.1, ap (λ t. lexemes_of (signs_of t tokens.0)) (sym (append_assoc front (byte ∷ []) rest)) ∙ tokens.2);
        are = gives.are;
      }

  token_gives : (kind : TokenKind) (text rest : List ℕ) (form : Form) (behind : Behind) → Spells kind text → Stops kind rest → form (record { kind = kind; text = text }) → Gives rest behind → Gives (text ++ rest) (form ▹ behind)
  token_gives kind text rest form behind spells stops is gives =
      record {
        lexemes = record { kind = kind; text = text } ∷ gives.lexemes;
        read = λ front.
            let tokens = gives.read (front ++ text) in
            let first : Token = token (length front) (length front + length text) kind in
            let long : length front + length text ≡ length (front ++ text) = omega (arith, length-append front text) in (
              first ∷ tokens.0,
              lexing.spelled (length front) kind text rest spells stops ∙ ap (λ n. with_first (Some first) (tokens_from n 0 rest)) long ∙ ap (with_first (Some first)) tokens.1,
              ap (λ t. record { kind = kind; text = t } ∷ lexemes_of (signs_of (front ++ (text ++ rest)) tokens.0)) (token_text front text rest)
                  ∙ ap (λ t. record { kind = kind; text = text } ∷ lexemes_of (signs_of t tokens.0)) (sym (append_assoc front text rest))
                  ∙ ap (λ l. record { kind = kind; text = text } ∷ l) tokens.2,
            );
        are = (is, gives.are);
      }

  -- ---- one token

  pub blank_prints : (byte : ℕ) → is_blank byte ≡ true → Prints Any (byte ∷ []) (λ behind. behind)
  blank_prints byte is = record { before = λ rest behind needs gives. blank_gives byte rest behind is gives }

  pub word_prints : (word : List ℕ) (form : Form) → is_word word ≡ true → form (record { kind = Word; text = word }) → Prints Stop word (λ behind. form ▹ behind)
  word_prints word form is has = record { before = λ rest behind needs gives. token_gives Word word rest form behind is needs has gives }

  pub mark_prints : (mark : ℕ) → is_punctuation mark ≡ true → Prints Any (mark ∷ []) (λ behind. IsMark mark ▹ behind)
  mark_prints mark is = record { before = λ rest behind needs gives. token_gives (Punct mark) (mark ∷ []) rest (IsMark mark) behind (refl, is) tt refl gives }

  pub number_prints : (n : ℕ) (form : Form) → n < 2 ^ 64 → form (record { kind = Number (pos n); text = decimal n }) → Prints Stop (decimal n) (λ behind. form ▹ behind)
  number_prints n form held has = record { before = λ rest behind needs gives. token_gives (Number (pos n)) (decimal n) rest form behind (spells_number n held) needs has gives }

  pub name_prints : (k : ℕ) (form : Form) → k < 2 ^ 64 → form (record { kind = Name; text = 37 ∷ decimal k }) → Prints Stop (37 ∷ decimal k) (λ behind. form ▹ behind)
  name_prints k form held has = record { before = λ rest behind needs gives. token_gives Name (37 ∷ decimal k) rest form behind (spells_name k held) needs has gives }

-- ---- parts, one behind the other

pub nothing_prints : {M : Needs} → Prints M [] (λ behind. behind)
nothing_prints = record { before = λ rest behind needs gives. gives }

pub followed : {M N : Needs} {a b : List ℕ} {p q : Part} → Prints N a p → Prints M b q → ((rest : List ℕ) → M rest → N (b ++ rest)) → Prints M (a ++ b) (λ behind. p (q behind))
followed {M} {N} {a} {b} {p} {q} x y link =
    record { before = λ rest behind needs gives. subst (λ t. Gives t (p (q behind))) (sym (append_assoc a b rest)) (x.before (b ++ rest) (q behind) (link rest needs) (y.before rest behind needs gives)) }

infixl 20 ◌⨾◌
pub ◌⨾◌ : {M : Needs} {a b : List ℕ} {p q : Part} → Prints Any a p → Prints M b q → Prints M (a ++ b) (λ behind. p (q behind))
x ⨾ y = followed x y (λ rest needs. tt)

-- where the second part begins with a byte that ends a word
pub stopped : {M : Needs} {a b : List ℕ} {p q : Part} → Prints Stop a p → Prints M b q → ((rest : List ℕ) → Stop (b ++ rest)) → Prints M (a ++ b) (λ behind. p (q behind))
stopped x y stops = followed x y (λ rest needs. stops rest)

pub weaker : {M : Needs} {a : List ℕ} {p : Part} → Prints Any a p → Prints M a p
weaker x = record { before = λ rest behind needs gives. x.before rest behind tt gives }

pub implied : {M : Needs} {a : List ℕ} {p q : Part} → Prints M a p → ((behind : Behind) (lexemes : List Lexeme) → p behind lexemes → q behind lexemes) → Prints M a q
implied x implies =
    record { before = λ rest behind needs gives. let g = x.before rest behind needs gives in record { lexemes = g.lexemes; read = g.read; are = implies behind g.lexemes g.are } }

-- ---- lists of parts

module _ {A B : Type 0} (P : A → Type 0) (text : A → List ℕ) (new : A → B) (part : B → Part) where
  module _ (prints : (a : A) → P a → Prints Any (text a) (part (new a))) where
    pub each_prints : (items : List A) → AllByRecursion P items → Prints Any (flat_map text items) (Each part (map new items))
    each_prints [] all = nothing_prints
    each_prints (item ∷ items) all = let both = prints item all.0 ⨾ each_prints items all.1 in both
