-- The words with which a shader is run: how often its loops may go back, the components of its inputs, and the bytes of its buffers.
use Rattle.std.specs.Prelude.{ℕ, ◌+◌, ◌*◌, Bool, true, false, not, ◌&&◌, ◌||◌, List, [], ◌∷◌, map, drop, Option, Some, None, nat_eq, nat_lt, codes, if◌then◌else◌}
use Rattle.std.specs.Char.{is_ascii_digit, digit_value}
use Rattle.std.specs.List.{flat_map, list_all, starts_with}
use Rattle.std.specs.Option.{option_and_then, option_map}
use Rattle.std.specs.Str.{bytes_eq}
use Rattle.std.specs.Str.Parse.{digits_value}
use Rattle.nir_lex.specs.Numbers.{word_of}
use Rattle.eval_words.specs.declared.words.EvalWords.{EvalWords}
use Rattle.eval_words.specs.declared.words.Said.{Said}
use Rattle.eval_words.specs.declared.words.Said.TheVariants.{Turns, Given, Filled}

-- `0`, or decimal digits that do not begin with 0
abbrev pub is_plain_decimal : List ℕ → Bool
is_plain_decimal [] = false
is_plain_decimal (first ∷ rest) = list_all is_ascii_digit (first ∷ rest) && (not (nat_eq first 48) || bytes_eq rest [])

-- a decimal number below 2^64
unfoldable pub decimal_of : List ℕ → Option ℕ
decimal_of text = if is_plain_decimal text then word_of (digits_value 10 text) else None

-- all of them, where each is there
abbrev pub all_some : {A : Type 0} → List (Option A) → Option (List A)
all_some [] = Some []
all_some (None ∷ rest) = None
all_some (Some item ∷ rest) = option_map (λ items. item ∷ items) (all_some rest)

abbrev pub is_no_comma : ℕ → Bool
is_no_comma byte = not (nat_eq byte 44)

-- the pieces between commas
abbrev pub before_others : ℕ → List (List ℕ) → List (List ℕ)
before_others byte [] = (byte ∷ []) ∷ []
before_others byte (piece ∷ pieces) = (byte ∷ piece) ∷ pieces

abbrev pub pieces : List ℕ → List (List ℕ)
pieces [] = [] ∷ []
pieces (byte ∷ bytes) = if nat_eq byte 44 then [] ∷ pieces bytes else before_others byte (pieces bytes)

-- what stands behind the first of them
abbrev pub behind_comma : Bool → List ℕ → List (List ℕ)
behind_comma more rest = if more then pieces rest else []

unfoldable pub decimals_of : List ℕ → Option (List ℕ)
decimals_of text = all_some (map decimal_of (pieces text))

-- a byte that two hexadecimal digits write
abbrev pub hex_of : ℕ → Option ℕ
hex_of byte = if nat_lt (digit_value byte) 16 then Some (digit_value byte) else None

abbrev pub byte_in_hex : ℕ → ℕ → Option ℕ
byte_in_hex high low = option_and_then (λ h. option_map (λ l. h * 16 + l) (hex_of low)) (hex_of high)

-- bytes of two hexadecimal digits each
unfoldable pub bytes_in_hex : List ℕ → Option (List ℕ)
bytes_in_hex [] = Some []
bytes_in_hex (high ∷ []) = None
bytes_in_hex (high ∷ low ∷ rest) = option_and_then (λ byte. option_map (λ bytes. byte ∷ bytes) (bytes_in_hex rest)) (byte_in_hex high low)

-- what a word says
unfoldable pub said : List ℕ → Option Said
said word =
    if starts_with nat_eq word (codes "--turns=") then option_map Turns (decimal_of (drop 8 word))
    else (if starts_with nat_eq word (codes "--input=") then option_map Given (decimals_of (drop 8 word))
    else (if starts_with nat_eq word (codes "--buffer=") then option_map Filled (bytes_in_hex (drop 9 word))
    else None))

abbrev pub turns_said : Said → List ℕ
turns_said (Turns turns) = turns ∷ []
turns_said (Given comps) = []
turns_said (Filled bytes) = []

abbrev pub input_said : Said → List (List ℕ)
input_said (Turns turns) = []
input_said (Given comps) = comps ∷ []
input_said (Filled bytes) = []

abbrev pub buffer_said : Said → List (List ℕ)
buffer_said (Turns turns) = []
buffer_said (Given comps) = []
buffer_said (Filled bytes) = bytes ∷ []

-- a word that tells the repeats
abbrev pub says_turns : Said → Bool
says_turns (Turns turns) = true
says_turns (Given comps) = false
says_turns (Filled bytes) = false

-- words that are read one by one, where the repeats were told before them, or not
abbrev pub next_read : Option Bool → Bool → (Bool → Bool) → Bool
next_read None told rest = false
next_read (Some true) true rest = false
next_read (Some true) false rest = rest true
next_read (Some false) told rest = rest told

abbrev pub are_read : Bool → List (List ℕ) → Bool
are_read told [] = told
are_read told (word ∷ words) = next_read (option_map says_turns (said word)) told (λ t. are_read t words)

-- the one item of a list
abbrev pub only : {A : Type 0} → List A → Option A
only [] = None
only (item ∷ []) = Some item
only (item ∷ another ∷ others) = None

-- the repeats are said once, the inputs and the buffers in order
abbrev pub told : List Said → Option EvalWords
told all = option_map (λ turns. record { turns = turns; inputs = flat_map input_said all; buffers = flat_map buffer_said all }) (only (flat_map turns_said all))

-- the reading of words, in any order
unfoldable pub eval_words : List (List ℕ) → Option EvalWords
eval_words words = option_and_then told (all_some (map said words))
