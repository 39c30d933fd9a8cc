-- Each part of a printed text gives the part of the grammar that spells it, with its numbers in text order.
use Rattle.std.specs.Prelude.{◌≡◌, refl, ℕ, suc, zero, ◌^◌, ◌<◌, Bool, true, List, [], ◌∷◌, ◌++◌, map, get_or, pos, codes, decimal}
use Rattle.std.specs.List.{AllByRecursion, flat_map, list_all}
use Rattle.std.specs.Str.{bytes_eq}
use Rattle.std.proofs.Common.{arith}
use Rattle.std.proofs.lemmas.Bool.{and_parts}
use Rattle.text_bytes.specs.Lists.{listed}
use Rattle.nir_ops.specs.declared.op.Op.{Op}
use Rattle.nir_ops.specs.declared.width.Width.{Width}
use Rattle.nir_ops.specs.declared.width.Width.TheVariants.{W1, W8, W16, W32, W64}
use Rattle.nir_ops.specs.Opcodes.{name_of, row_of}
use Rattle.nir_ops.specs.Width.{width_bits}
use Rattle.nir_ops.specs.Lookup.{all_ops, op_named}
use Rattle.nir_ops.specs.Names.{op_named-name_of}
use Rattle.nir_ir.specs.declared.kind.Kind.{Kind}
use Rattle.nir_ir.specs.Found.{found_all, count_most}
use Rattle.nir_ir.specs.Shaped.{IsCount, IsSwizzle}
use Rattle.nir_lex.specs.Classes.{is_blank, is_in_word, is_punctuation, is_word, starts_word}
use Rattle.nir_spelling.specs.Lexemes.{Part, ◌▹◌, IsMark, IsWord, IsIndex, EachBehindComma, Separated}
use Rattle.nir_spelling.specs.Spelling.{IsKind, kind_word, IsComponent, SpellsComponent, swizzle_word}
use Rattle.list_laws.specs.AllLaws.{all_append}
use Rattle.nir_print.proofs.Lexing.{Lexing, Prints, Any, Stop, blank_prints, word_prints, mark_prints, number_prints, nothing_prints, followed, ◌⨾◌, is_word-cons, decimal_in_word}

-- ---- words

all_from_list_all : {A : Type 0} (test : A → Bool) (list : List A) → list_all test list ≡ true → AllByRecursion (λ a. test a ≡ true) list
all_from_list_all test [] is = tt
all_from_list_all test (a ∷ list) is = let both = and_parts (test a) (list_all test list) is in (both.0, all_from_list_all test list both.1)

ops_are_words : list_all (λ op. is_word (name_of op)) all_ops ≡ true
unfolding all_ops name_of row_of is_word starts_word is_in_word
ops_are_words = refl

pub is_word-op : (op : Op) → is_word (name_of op) ≡ true
unfolding op_named
is_word-op op = found_all (λ o. is_word (name_of o) ≡ true) (λ o. bytes_eq (name_of o) (name_of op)) all_ops op (all_from_list_all (λ o. is_word (name_of o)) all_ops ops_are_words) (op_named-name_of op)

bits_held : (width : Width) → width_bits width < 2 ^ 64
bits_held W1 = omega arith
bits_held W8 = omega arith
bits_held W16 = omega arith
bits_held W32 = omega arith
bits_held W64 = omega arith

is_word-kind : (kind : Kind) → IsCount kind.count → is_word (kind_word kind) ≡ true
unfolding starts_word is_in_word
is_word-kind kind count =
    let in_word : ℕ → Type 0 = λ c. is_in_word c ≡ true in
    let bits = all_append in_word (decimal (width_bits kind.width)) (120 ∷ []) (decimal_in_word (width_bits kind.width) (bits_held kind.width)) (refl, tt) in
    let count_in_word = decimal_in_word kind.count (omega (arith, count_most kind.count count)) in
    is_word-cons 119 (decimal (width_bits kind.width) ++ 120 ∷ [] ++ decimal kind.count) refl refl (all_append in_word (decimal (width_bits kind.width) ++ 120 ∷ []) (decimal kind.count) bits count_in_word)

-- the letters of a swizzle
letter_is : (component : ℕ) → component < 4 → (starts_word (get_or (codes "xyzw") component 0) ≡ true) × (is_in_word (get_or (codes "xyzw") component 0) ≡ true)
unfolding starts_word is_in_word
letter_is zero lt = (refl, refl)
letter_is (suc zero) lt = (refl, refl)
letter_is (suc (suc zero)) lt = (refl, refl)
letter_is (suc (suc (suc zero))) lt = (refl, refl)
letter_is (suc (suc (suc (suc n)))) lt = absurd (omega arith)

letters_in_word : (swizzle : List ℕ) → AllByRecursion (λ entry. entry < 4) swizzle → AllByRecursion (λ c. is_in_word c ≡ true) (swizzle_word swizzle)
letters_in_word [] all = tt
letters_in_word (c ∷ swizzle) all = ((letter_is c all.0).1, letters_in_word swizzle all.1)

pub is_word-swizzle : (swizzle : List ℕ) → IsSwizzle swizzle → is_word (swizzle_word swizzle) ≡ true
is_word-swizzle [] is = absurd (omega (arith, is.some))
is_word-swizzle (c ∷ swizzle) is =
    let first = letter_is c is.components.0 in
    is_word-cons (get_or (codes "xyzw") c 0) (swizzle_word swizzle) first.0 first.1 (letters_in_word swizzle is.components.1)

-- ---- parts that need no names

module _ (lexing : Lexing) where
  pub space : Prints Any (32 ∷ []) (λ behind. behind)
  unfolding is_blank
  space = blank_prints lexing 32 refl

  pub line_feed : Prints Any (10 ∷ []) (λ behind. behind)
  unfolding is_blank
  line_feed = blank_prints lexing 10 refl

  pub comma : Prints Any (44 ∷ []) (λ behind. IsMark 44 ▹ behind)
  unfolding is_punctuation
  comma = mark_prints lexing 44 refl

  pub dot : Prints Any (46 ∷ []) (λ behind. IsMark 46 ▹ behind)
  unfolding is_punctuation
  dot = mark_prints lexing 46 refl

  pub colon : Prints Any (58 ∷ []) (λ behind. IsMark 58 ▹ behind)
  unfolding is_punctuation
  colon = mark_prints lexing 58 refl

  pub equals : Prints Any (61 ∷ []) (λ behind. IsMark 61 ▹ behind)
  unfolding is_punctuation
  equals = mark_prints lexing 61 refl

  pub at_sign : Prints Any (64 ∷ []) (λ behind. IsMark 64 ▹ behind)
  unfolding is_punctuation
  at_sign = mark_prints lexing 64 refl

  pub open_round : Prints Any (40 ∷ []) (λ behind. IsMark 40 ▹ behind)
  unfolding is_punctuation
  open_round = mark_prints lexing 40 refl

  pub close_round : Prints Any (41 ∷ []) (λ behind. IsMark 41 ▹ behind)
  unfolding is_punctuation
  close_round = mark_prints lexing 41 refl

  pub open_square : Prints Any (91 ∷ []) (λ behind. IsMark 91 ▹ behind)
  unfolding is_punctuation
  open_square = mark_prints lexing 91 refl

  pub close_square : Prints Any (93 ∷ []) (λ behind. IsMark 93 ▹ behind)
  unfolding is_punctuation
  close_square = mark_prints lexing 93 refl

  pub open_brace : Prints Any (123 ∷ []) (λ behind. IsMark 123 ▹ behind)
  unfolding is_punctuation
  open_brace = mark_prints lexing 123 refl

  pub close_brace : Prints Any (125 ∷ []) (λ behind. IsMark 125 ▹ behind)
  unfolding is_punctuation
  close_brace = mark_prints lexing 125 refl

  -- this word
  pub this_word : (word : List ℕ) → is_word word ≡ true → Prints Stop word (λ behind. IsWord word ▹ behind)
  this_word word is = word_prints lexing word (IsWord word) is (refl, refl)

  pub kind_prints : (kind : Kind) → IsCount kind.count → Prints Stop (kind_word kind) (λ behind. IsKind kind ▹ behind)
  kind_prints kind count = word_prints lexing (kind_word kind) (IsKind kind) (is_word-kind kind count) ((refl, refl), count)

  pub index_prints : (n : ℕ) → n < 2 ^ 32 → Prints Stop (decimal n) (λ behind. IsIndex n ▹ behind)
  index_prints n lt = number_prints lexing n (IsIndex n) (omega arith) (refl, lt)

  component_held : (width : Width) (component : ℕ) → component < 2 ^ width_bits width → component < 2 ^ 64
  component_held W1 component lt = omega arith
  component_held W8 component lt = omega arith
  component_held W16 component lt = omega arith
  component_held W32 component lt = omega arith
  component_held W64 component lt = lt

  pub component_prints : (kind : Kind) (component : ℕ) → component < 2 ^ width_bits kind.width → Prints Stop (decimal component) (SpellsComponent kind component)
  component_prints kind component lt = number_prints lexing component (IsComponent kind component) (component_held kind.width component lt) (pos component, refl, (refl, lt))

  -- ---- lists with commas

  module _ {A B : Type 0} (P : A → Type 0) (text : A → List ℕ) (new : A → B) (part : B → Part) (prints : (a : A) → P a → Prints Stop (text a) (part (new a))) where
    commas_stop : (items : List A) (rest : List ℕ) → Stop rest → Stop (flat_map (λ next. codes ", " ++ next) (map text items) ++ rest)
    unfolding is_in_word
    commas_stop [] rest stop = stop
    commas_stop (item ∷ items) rest stop = refl

    commas_print : (items : List A) → AllByRecursion P items → Prints Stop (flat_map (λ next. codes ", " ++ next) (map text items)) (EachBehindComma part (map new items))
    commas_print [] all = nothing_prints
    commas_print (item ∷ items) all = let first = comma ⨾ (space ⨾ prints item all.0) in
        let both = followed first (commas_print items all.1) (commas_stop items) in both

    pub listed_prints : (items : List A) → AllByRecursion P items → Prints Stop (listed (map text items)) (Separated part (map new items))
    listed_prints [] all = nothing_prints
    listed_prints (item ∷ items) all = let both = followed (prints item all.0) (commas_print items all.1) (commas_stop items) in both
