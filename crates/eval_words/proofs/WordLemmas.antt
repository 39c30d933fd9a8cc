-- Digits that 64 bits do not hold, and texts that are cut at commas.
use Rattle.std.proofs.Common.{◌≡◌, ℕ, suc, ◌+◌, ◌*◌, ◌<◌, ◌≤◌, Bool, true, false, cond, List, [], ◌∷◌, length, get_or, take, drop, None, refl, sym, ap, ◌∙◌, arith, ◌-◌, subst, ◌++◌, append_assoc, Some, map}
use Rattle.std.specs.Prelude.{Option, nat_eq, not, is_some, if◌then◌else◌}
use Rattle.std.specs.Char.{digit_value}
use Rattle.std.specs.List.{flat_map, prefix_len}
use Rattle.std.specs.Option.{option_and_then, option_map}
use Rattle.std.specs.Str.Parse.{digits_value_after}
use Rattle.std.proofs.lemmas.Bool.Decides.{nat_tests}
use Rattle.std.proofs.lemmas.List.{at_drop_more}
use Rattle.list_laws.specs.PlaceLaws.{take_whole}
use Rattle.nir_lex.specs.Numbers.{word_of}
use Rattle.eval_words.specs.declared.words.Said.{Said}
use Rattle.eval_words.specs.declared.words.Said.TheVariants.{Turns, Given, Filled}
use Rattle.eval_words.specs.EvalWords.{all_some, are_read, next_read, before_others, byte_in_hex, bytes_in_hex, eval_words, is_no_comma, only, pieces, said, says_turns, told, turns_said}

-- more digits make no value smaller
digits_value_after-ge : (value : ℕ) (digits : List ℕ) → value ≤ digits_value_after 10 value digits
digits_value_after-ge value [] = omega arith
digits_value_after-ge value (digit ∷ digits) = omega (arith, digits_value_after-ge (value * 10 + digit_value digit) digits)

word_of-none : (m n : ℕ) → m ≤ n → word_of m ≡ None → word_of n ≡ None
word_of-none m n le none = grind (arith, nat_tests)

-- a value that 64 bits do not hold stays so under the digits that follow
pub none_stays : (value i : ℕ) (digits : List ℕ) (total : ℕ) → i < length digits → word_of (value * 10 + digit_value (get_or digits i 0)) ≡ None → digits_value_after 10 value (drop i digits) ≡ total → word_of total ≡ None
none_stays value i digits total within none rest =
    let more : digits_value_after 10 value (drop i digits) ≡ digits_value_after 10 (value * 10 + digit_value (get_or digits i 0)) (drop (i + 1) digits) = at_drop_more (digits_value_after 10 value) digits i 0 within in
    let ge = digits_value_after-ge (value * 10 + digit_value (get_or digits i 0)) (drop (i + 1) digits) in
    word_of-none _ total (omega arith) none

pub word_same : (m n : ℕ) → word_of m ≡ Some n → word_of n ≡ Some n
word_same m n h = grind (arith, nat_tests)

-- what a cut leaves behind it
abbrev pub left_behind : List ℕ → List (List ℕ)
left_behind [] = []
left_behind (comma ∷ rest) = pieces rest

-- a text is its first piece, and the pieces behind the first comma
cut_more : (byte : ℕ) (bytes : List ℕ) (n k : ℕ) → k ≡ suc n → pieces bytes ≡ take n bytes ∷ left_behind (drop n bytes)
    → before_others byte (pieces bytes) ≡ take k (byte ∷ bytes) ∷ left_behind (drop k (byte ∷ bytes))
cut_more byte bytes n k e rest = subst (λ m. before_others byte (pieces bytes) ≡ take m (byte ∷ bytes) ∷ left_behind (drop m (byte ∷ bytes))) (sym e) (ap (before_others byte) rest)

cut_at : (byte : ℕ) (bytes : List ℕ) (b : Bool) → pieces bytes ≡ take (prefix_len is_no_comma bytes) bytes ∷ left_behind (drop (prefix_len is_no_comma bytes) bytes)
    → (if b then [] ∷ pieces bytes else before_others byte (pieces bytes)) ≡ take (cond (not b) (1 + prefix_len is_no_comma bytes) 0) (byte ∷ bytes) ∷ left_behind (drop (cond (not b) (1 + prefix_len is_no_comma bytes) 0) (byte ∷ bytes))
cut_at byte bytes true rest = refl
cut_at byte bytes false rest = cut_more byte bytes (prefix_len is_no_comma bytes) (1 + prefix_len is_no_comma bytes) (omega arith) rest

pub pieces_cut : (text : List ℕ) → pieces text ≡ take (prefix_len is_no_comma text) text ∷ left_behind (drop (prefix_len is_no_comma text) text)
pieces_cut [] = refl
pieces_cut (byte ∷ bytes) = cut_at byte bytes (nat_eq byte 44) (pieces_cut bytes)

behind_first : (rest : List ℕ) → 1 ≤ length rest → left_behind rest ≡ pieces (take (length rest - 1) (drop 1 rest))
behind_first [] some = absurd (omega (arith, some))
behind_first (comma ∷ rest) some = ap pieces (sym (take_whole rest (suc (length rest) - 1) (omega arith)))

-- a text with a comma is what stands before it, and the pieces behind it
pub cut_behind : (text front back : List ℕ) (n : ℕ) → n ≡ prefix_len is_no_comma text → front ≡ take n text → back ≡ drop n text → 1 ≤ length back
    → pieces text ≡ front ∷ pieces (take (length back - 1) (drop 1 back))
cut_behind text front back n free is_front is_back some =
    pieces_cut text
    ∙ ap (λ m. take m text ∷ left_behind (drop m text)) (sym free)
    ∙ ap (λ l. l ∷ left_behind (drop n text)) (sym is_front)
    ∙ ap (λ l. front ∷ left_behind l) (sym is_back)
    ∙ ap (λ l. front ∷ l) (behind_first back some)

-- items, and behind them those of a further list, where it is there
abbrev pub behind : {A : Type 0} → List A → Option (List A) → Option (List A)
behind made rest = option_map (λ more. made ++ more) rest

pub behind_none : {A : Type 0} (rest : Option (List A)) → behind [] rest ≡ rest
behind_none None = refl
behind_none (Some more) = refl

pub behind_more : {A : Type 0} (made : List A) (item : A) (rest : Option (List A)) → behind made (option_map (λ items. item ∷ items) rest) ≡ behind (made ++ item ∷ []) rest
behind_more made item None = refl
behind_more made item (Some more) = ap Some (sym (append_assoc made (item ∷ []) more))

pub some_more : {A : Type 0} (item : A) (rest : Option (List A)) → is_some (option_map (λ items. item ∷ items) rest) ≡ is_some rest
some_more item None = refl
some_more item (Some more) = refl

-- repeats that were told, or not yet
abbrev pub told_list : Bool → List ℕ
told_list true = 0 ∷ []
told_list false = []

abbrev pub reads_with : Bool → Option (List Said) → Bool
reads_with told found = is_some (option_and_then (λ all. only (told_list told ++ flat_map turns_said all)) found)

only_any : (m n : ℕ) (l : List ℕ) → is_some (only (m ∷ l)) ≡ is_some (only (n ∷ l))
only_any m n [] = refl
only_any m n (x ∷ l) = refl

twice : (turns : ℕ) (rest : Option (List Said)) → false ≡ reads_with true (option_map (λ items. Turns turns ∷ items) rest)
twice turns None = refl
twice turns (Some all) = refl

once : (turns : ℕ) (rest : Option (List Said)) → reads_with true rest ≡ reads_with false (option_map (λ items. Turns turns ∷ items) rest)
once turns None = refl
once turns (Some all) = only_any 0 turns (flat_map turns_said all)

input_apart : (told : Bool) (comps : List ℕ) (rest : Option (List Said)) → reads_with told rest ≡ reads_with told (option_map (λ items. Given comps ∷ items) rest)
input_apart told comps None = refl
input_apart told comps (Some all) = refl

buffer_apart : (told : Bool) (bytes : List ℕ) (rest : Option (List Said)) → reads_with told rest ≡ reads_with told (option_map (λ items. Filled bytes ∷ items) rest)
buffer_apart told bytes None = refl
buffer_apart told bytes (Some all) = refl

read_next : (one : Option Said) (told : Bool) (rest : List (Option Said)) → next_read (option_map says_turns one) told (λ t. reads_with t (all_some rest)) ≡ reads_with told (all_some (one ∷ rest))
read_next None told rest = refl
read_next (Some (Turns turns)) true rest = twice turns (all_some rest)
read_next (Some (Turns turns)) false rest = once turns (all_some rest)
read_next (Some (Given comps)) told rest = input_apart told comps (all_some rest)
read_next (Some (Filled bytes)) told rest = buffer_apart told bytes (all_some rest)

next_same : (one : Option Bool) (told : Bool) (rest other : Bool → Bool) → ((t : Bool) → rest t ≡ other t) → next_read one told rest ≡ next_read one told other
next_same None told rest other h = refl
next_same (Some true) true rest other h = refl
next_same (Some true) false rest other h = h true
next_same (Some false) told rest other h = h told

told_end : (told : Bool) → told ≡ is_some (only (told_list told ++ []))
told_end true = refl
told_end false = refl

are_read-is : (told : Bool) (words : List (List ℕ)) → are_read told words ≡ reads_with told (all_some (map said words))
are_read-is told [] = told_end told
are_read-is told (word ∷ words) = next_same (option_map says_turns (said word)) told (λ t. are_read t words) (λ t. reads_with t (all_some (map said words))) (λ t. are_read-is t words) ∙ read_next (said word) told (map said words)

some_mapped : {A B : Type 0} (f : A → B) (o : Option A) → is_some (option_map f o) ≡ is_some o
some_mapped f None = refl
some_mapped f (Some a) = refl

all_told : (found : Option (List Said)) → is_some (option_and_then told found) ≡ reads_with false found
all_told None = refl
all_told (Some all) = some_mapped _ (only (flat_map turns_said all))

-- the words have a reading exactly where they are read one by one
pub reading_is : (words : List (List ℕ)) → is_some (eval_words words) ≡ are_read false words
unfolding eval_words
reading_is words = all_told (all_some (map said words)) ∙ sym (are_read-is false words)

-- a byte that the first two digits write is read before those of the digits left
pub hex_more : (made rest : List ℕ) (byte : ℕ) → 2 ≤ length rest → Some byte ≡ byte_in_hex (get_or rest 0 0) (get_or rest 1 0)
    → behind (made ++ byte ∷ []) (bytes_in_hex (take (length rest - 2) (drop 2 rest))) ≡ behind made (bytes_in_hex rest)
unfolding bytes_in_hex
hex_more made [] byte two is = absurd (omega (arith, two))
hex_more made (high ∷ []) byte two is = absurd (omega (arith, two))
hex_more made (high ∷ low ∷ rest) byte two is =
    ap (λ l. behind (made ++ byte ∷ []) (bytes_in_hex l)) (take_whole rest (suc (suc (length rest)) - 2) (omega arith))
    ∙ sym (behind_more made byte (bytes_in_hex rest))
    ∙ ap (λ o. behind made (option_and_then (λ b. option_map (λ bytes. b ∷ bytes) (bytes_in_hex rest)) o)) is
