-- A spelled token is read, whatever stands behind it.
use Rattle.std.proofs.Common.{◌≡◌, ℕ, suc, ◌+◌, ◌^◌, ◌<◌, ◌≤◌, Bool, true, false, cond, eqb, ◌||◌, List, [], ◌∷◌, ◌++◌, length, take, drop, Some, Result, ℤ, pos, refl, sym, ap, subst, ◌∙◌, inl, inr, add-zero, arith}
use Rattle.std.specs.Prelude.{codes}
use Rattle.std.specs.List.{prefix_len, list_any, AllByRecursion}
use Rattle.std.specs.Char.{is_ascii_digit}
use Rattle.std.specs.Str.Parse.{digits_value}
use Rattle.std.proofs.lemmas.Bool.{both_ways, cases_Bool, and_parts, and_right, or_cases, eqb-true, eq-eqb, ne_eqb, lt-ltb}
use Rattle.std.proofs.lemmas.Bool.Decides.{nat_tests}
use Rattle.std.proofs.lemmas.List.{take_at, drop_at, length-append}
use Rattle.std.proofs.lemmas.List.Folds.{prefix_len-append}
use Rattle.nir_lex.specs.declared.fault.LexFault.{LexFault}
use Rattle.nir_lex.specs.declared.token.Token.{Token}
use Rattle.nir_lex.specs.declared.token.TokenKind.{TokenKind}
use Rattle.nir_lex.specs.declared.token.TokenKind.TheVariants.{Word, Number, Name, Quoted, Punct, End}
use Rattle.nir_lex.specs.Classes.{starts_word, is_in_word, is_blank, is_quote, is_punctuation, is_word, begins}
use Rattle.nir_lex.specs.Numbers.{limited}
use Rattle.nir_lex.specs.Pieces.{token_piece, number_piece, decimal, unsigned, name, piece_at}
use Rattle.nir_lex.specs.Reading.{token, with_first, piece_then, tokens_from}
use Rattle.nir_lex.specs.Spelling.{IsRunOf, IsDecimalOf, SpelledIsRead, BlanksArePassed}
use Rattle.nir_lex.proofs.Steps.{passes}

-- a run that fills a text ends with it, where the byte behind is of another class
none_begins : (class : ℕ → Bool) (rest : List ℕ) → begins class rest ≡ false → prefix_len class rest ≡ 0
none_begins class [] stop = refl
none_begins class (byte ∷ bytes) stop = rw stop refl

run_ends : (class : ℕ → Bool) (text rest : List ℕ) → prefix_len class text ≡ length text → begins class rest ≡ false → prefix_len class (text ++ rest) ≡ length text
run_ends class text rest all stop =
    let same : eqb (length text) (length text) ≡ true = eq-eqb (length text) (length text) refl in
    prefix_len-append class text rest ∙ rw (all, same, none_begins class rest stop) (add-zero (length text))

first_of_run : (here : Bool) (m n : ℕ) → cond here (1 + m) 0 ≡ suc n → (here ≡ true) × (m ≡ n)
first_of_run true m n is = (refl, omega arith)
first_of_run false m n is = absurd (omega arith)

-- a smaller class begins nowhere where a larger one does not
not_begins : (large small : ℕ → Bool) → ((byte : ℕ) → small byte ≡ true → large byte ≡ true) → (rest : List ℕ) → begins large rest ≡ false → begins small rest ≡ false
not_begins large small in_large [] stop = refl
not_begins large small in_large (byte ∷ bytes) stop =
    elim (cases_Bool (small byte)) [
      | inl is ↦ absurd (both_ways (large byte) stop (in_large byte is))
      | inr is ↦ is
    ]

digit_in_word : (byte : ℕ) → is_ascii_digit byte ≡ true → is_in_word byte ≡ true
unfolding is_in_word
digit_in_word byte is = rw is refl

one_more : (digit upper lower other : Bool) → ((upper || lower) || other) ≡ true → (((digit || upper) || lower) || other) ≡ true
one_more true upper lower other is = refl
one_more false upper lower other is = is

start_in_word : (byte : ℕ) → starts_word byte ≡ true → is_in_word byte ≡ true
unfolding is_in_word starts_word
start_in_word byte is = one_more (is_ascii_digit byte) _ _ _ is

-- the tests before that of a word fail at a letter, and those before that of a digit at a digit
letter_range : (byte : ℕ) → starts_word byte ≡ true → 65 ≤ byte
unfolding starts_word
letter_range byte is = grind (arith, nat_tests)

digit_range : (byte : ℕ) → is_ascii_digit byte ≡ true → (48 ≤ byte) × (byte ≤ 57)
digit_range byte is = (grind (arith, nat_tests), grind (arith, nat_tests))

no_blank : (byte : ℕ) → 48 ≤ byte → is_blank byte ≡ false
unfolding is_blank
no_blank byte le = rw (ne_eqb 32 byte (λ e. absurd (omega arith)), ne_eqb 9 byte (λ e. absurd (omega arith)), ne_eqb 13 byte (λ e. absurd (omega arith)), ne_eqb 10 byte (λ e. absurd (omega arith))) refl

no_start : (byte : ℕ) → byte ≤ 57 → starts_word byte ≡ false
unfolding starts_word
no_start byte le = grind (arith, nat_tests)

-- what a piece of a known kind and length makes of the text
read_on : (place : ℕ) (kind : TokenKind) (byte : ℕ) (bytes rest : List ℕ) → piece_at place byte (bytes ++ rest) ≡ token_piece kind (length bytes)
    → tokens_from place 0 ((byte ∷ bytes) ++ rest) ≡ with_first (Some (token place (place + suc (length bytes)) kind)) (tokens_from (place + suc (length bytes)) 0 rest)
read_on place kind byte bytes rest is =
    let others : ℕ → Result (List Token) LexFault = λ skip. tokens_from (place + 1) skip (bytes ++ rest) in
    let first = ap (λ r. piece_then place r others) is in
    let behind : tokens_from (place + 1) (length bytes) (bytes ++ rest) ≡ tokens_from (place + 1 + length bytes) 0 rest =
    passes (place + 1) (length bytes) (bytes ++ rest) (omega (arith, length-append bytes rest)) ∙ ap (tokens_from (place + 1 + length bytes) 0) (drop_at bytes rest (length bytes) refl) in
    let end : place + 1 + length bytes ≡ place + suc (length bytes) = omega arith in
    first ∙ ap (with_first (Some (token place (place + 1 + length bytes) kind))) behind ∙ ap (λ (n : ℕ). with_first (Some (token place n kind)) (tokens_from n 0 rest)) end

word_piece : (place byte : ℕ) (bytes rest : List ℕ) → is_word (byte ∷ bytes) ≡ true → begins is_in_word rest ≡ false → piece_at place byte (bytes ++ rest) ≡ token_piece Word (length bytes)
unfolding is_word piece_at
word_piece place byte bytes rest is stop =
    let parts = and_parts (starts_word byte) (eqb (prefix_len is_in_word (byte ∷ bytes)) (length (byte ∷ bytes))) is in
    let run = first_of_run (is_in_word byte) (prefix_len is_in_word bytes) (length bytes) (eqb-true _ _ parts.1) in
    let low = letter_range byte parts.0 in
    rw (no_blank byte (omega arith), ne_eqb byte 35 (λ e. absurd (omega arith)), parts.0, run_ends is_in_word bytes rest run.1 stop) refl

name_piece : (place : ℕ) (letters rest : List ℕ) → IsRunOf is_in_word letters → begins is_in_word rest ≡ false → piece_at place 37 (letters ++ rest) ≡ token_piece Name (length letters)
unfolding piece_at is_blank starts_word name
name_piece place letters rest run stop =
    let some : eqb (length letters) 0 ≡ false = ne_eqb (length letters) 0 (λ e. absurd (omega (arith, run.some))) in
    rw (run_ends is_in_word letters rest run.all stop, some) refl

-- a byte of a list has what each of the list has
one_of : (P : ℕ → Type 0) (marks : List ℕ) (byte : ℕ) → list_any (λ mark. eqb mark byte) marks ≡ true → AllByRecursion P marks → P byte
one_of P [] byte is all = absurd cc
one_of P (mark ∷ marks) byte is all =
    elim (or_cases (eqb mark byte) (list_any (λ m. eqb m byte) marks) is) [
      | inl same ↦ subst P (eqb-true mark byte same) all.0
      | inr later ↦ one_of P marks byte later all.1
    ]

punct_piece : (place byte : ℕ) (rest : List ℕ) → is_punctuation byte ≡ true → piece_at place byte rest ≡ token_piece (Punct byte) 0
unfolding piece_at is_blank starts_word is_quote is_punctuation
punct_piece place byte rest is =
    let found : ℕ → Type 0 = λ mark. piece_at place mark rest ≡ token_piece (Punct mark) 0 in
    let all : AllByRecursion found (codes "()[]{},:;=@.*") = (refl, (refl, (refl, (refl, (refl, (refl, (refl, (refl, (refl, (refl, (refl, (refl, (refl, tt))))))))))))) in
    one_of found (codes "()[]{},:;=@.*") byte is all

x_in_word : (byte : ℕ) → eqb byte 120 ≡ true → is_in_word byte ≡ true
unfolding is_in_word
x_in_word byte is = rw (eqb-true byte 120 is) refl

-- no digits are followed by the `x` of a hexadecimal number
no_x : (digits rest : List ℕ) → prefix_len is_ascii_digit digits ≡ length digits → begins is_in_word rest ≡ false → begins (λ byte. eqb byte 120) (digits ++ rest) ≡ false
no_x [] rest all stop = not_begins is_in_word (λ byte. eqb byte 120) x_in_word rest stop
no_x (digit ∷ digits) rest all stop =
    let run = first_of_run (is_ascii_digit digit) (prefix_len is_ascii_digit digits) (length digits) all in
    let range = digit_range digit run.0 in
    ne_eqb digit 120 (λ e. absurd (omega (arith, range.1)))

number_piece-held : (place value tail : ℕ) (rest : List ℕ) → value < 2 ^ 64 → begins starts_word (drop tail rest) ≡ false → number_piece place (limited (pos value)) tail rest ≡ token_piece (Number (pos value)) tail
unfolding number_piece limited
number_piece-held place value tail rest held stop = rw (lt-ltb value (2 ^ 64) held, stop) refl

decimal-held : (place digit : ℕ) (digits rest : List ℕ) (value : ℤ) → IsDecimalOf (digit ∷ digits) value → begins is_in_word rest ≡ false → decimal place digit (digits ++ rest) ≡ token_piece (Number value) (length digits)
unfolding decimal
decimal-held place digit digits rest value is stop =
    let run = first_of_run (is_ascii_digit digit) (prefix_len is_ascii_digit digits) (length digits) is.digits.all in
    let behind : begins starts_word (drop (length digits) (digits ++ rest)) ≡ false = rw (drop_at digits rest (length digits) refl) (not_begins is_in_word starts_word start_in_word rest stop) in
    ap (λ (n : ℕ). number_piece place (limited (pos (digits_value 10 (digit ∷ take n (digits ++ rest))))) n (digits ++ rest)) (run_ends is_ascii_digit digits rest run.1 (not_begins is_in_word is_ascii_digit digit_in_word rest stop))
    ∙ ap (λ (l : List ℕ). number_piece place (limited (pos (digits_value 10 (digit ∷ l)))) (length digits) (digits ++ rest)) (take_at digits rest (length digits) refl)
    ∙ number_piece-held place (digits_value 10 (digit ∷ digits)) (length digits) (digits ++ rest) is.held behind
    ∙ ap (λ (v : ℤ). token_piece (Number v) (length digits)) (sym is.value_is)

decimal_piece : (place digit : ℕ) (digits rest : List ℕ) (value : ℤ) → IsDecimalOf (digit ∷ digits) value → begins is_in_word rest ≡ false → piece_at place digit (digits ++ rest) ≡ token_piece (Number value) (length digits)
unfolding piece_at unsigned
decimal_piece place digit digits rest value is stop =
    let run = first_of_run (is_ascii_digit digit) (prefix_len is_ascii_digit digits) (length digits) is.digits.all in
    let range = digit_range digit run.0 in
    rw (no_blank digit (omega (arith, range.0)), ne_eqb digit 35 (λ e. absurd (omega (arith, range.0))), no_start digit range.1, run.0, no_x digits rest run.1 stop, and_right (eqb digit 48) false refl) (decimal-held place digit digits rest value is stop)

pub spelled_is_read : SpelledIsRead
unfolding is_word
spelled_is_read place Word [] rest spells stop = absurd cc
spelled_is_read place Word (byte ∷ bytes) rest spells stop = read_on place Word byte bytes rest (word_piece place byte bytes rest spells stop)
spelled_is_read place (Number value) [] rest spells stop = absurd (omega (arith, spells.digits.some))
spelled_is_read place (Number value) (digit ∷ digits) rest spells stop = read_on place (Number value) digit digits rest (decimal_piece place digit digits rest value spells stop)
spelled_is_read place Name text rest spells stop =
    subst (λ (t : List ℕ). tokens_from place 0 (t ++ rest) ≡ with_first (Some (token place (place + length t) Name)) (tokens_from (place + length t) 0 rest)) (sym spells.1) (read_on place Name 37 spells.0 rest (name_piece place spells.0 rest spells.2 stop))
spelled_is_read place Quoted text rest spells stop = absurd spells
spelled_is_read place (Punct byte) text rest spells stop =
    subst (λ (t : List ℕ). tokens_from place 0 (t ++ rest) ≡ with_first (Some (token place (place + length t) (Punct byte))) (tokens_from (place + length t) 0 rest)) (sym spells.0) (read_on place (Punct byte) byte [] rest (punct_piece place byte rest spells.1))
spelled_is_read place End text rest spells stop = absurd spells

pub blanks_are_passed : BlanksArePassed
unfolding piece_at
blanks_are_passed place byte rest is = rw is refl
