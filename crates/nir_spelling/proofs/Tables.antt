-- Kinds, opcodes, swizzles and numbers as tokens: what the grammar asks of one is what a reader finds in it.
use Rattle.std.proofs.Common.{◌≡◌, ℕ, zero, suc, ◌+◌, ◌-◌, ◌^◌, ◌<◌, ◌≤◌, Bool, true, false, cond, ◌&&◌, List, [], ◌∷◌, length, get_or, ℤ, pos, negsuc, Option, Some, None, nat_eq, nat_lt, find, codes, refl, sym, ap, ◌∙◌, subst, inl, inr, arith, ltb-true, lt-ltb, eqb-true, option_map}
use Rattle.std.specs.Fmt.{digits}
use Rattle.std.specs.Str.{bytes_eq}
use Rattle.std.specs.List.{AllByRecursion, list_any}
use Rattle.std.proofs.lemmas.Bool.{and_parts, or_cases}
use Rattle.std.proofs.lemmas.Option.{cond_some, option_and_then_some, same_Some}
use Rattle.std.proofs.lemmas.Slice.Eq.{bytes_eq-Decides}
use Rattle.nir_ops.specs.declared.op.Op.{Op}
use Rattle.nir_ops.specs.declared.width.Width.{Width}
use Rattle.nir_ops.specs.declared.width.Width.TheVariants.{W1, W8, W16, W32, W64}
use Rattle.nir_ops.specs.Lookup.{all_ops, op_named}
use Rattle.nir_ops.specs.Names.{op_named-name_of}
use Rattle.nir_ops.specs.Opcodes.{name_of, row_of}
use Rattle.nir_ops.specs.Width.{width_bits}
use Rattle.nir_ir.specs.declared.kind.Kind.{Kind}
use Rattle.nir_ir.specs.Shaped.{IsCount, IsSwizzle}
use Rattle.nir_text.specs.Kinds.{KindWord, kind_words, kind_named}
use Rattle.nir_text.specs.Instrs.{keywords, is_keyword, component_of, letter_of, letter_before, letters_of, swizzle_of}
use Rattle.nir_text.specs.Reading.{index_of}
use Rattle.nir_spelling.specs.Spelling.{kind_word, Gives, swizzle_word}

-- ---- kinds

IsCount-few : (count : ℕ) → IsCount count → count ≤ 4
IsCount-few count e =
    elim (or_cases (nat_eq count 1) (list_any (nat_eq count) (2 ∷ 3 ∷ 4 ∷ [])) e) [
      | inl one ↦ let same = eqb-true count 1 one in omega (arith, same)
      | inr more ↦ elim (or_cases (nat_eq count 2) (list_any (nat_eq count) (3 ∷ 4 ∷ [])) more) [
        | inl two ↦ let same = eqb-true count 2 two in omega (arith, same)
        | inr others ↦ elim (or_cases (nat_eq count 3) (list_any (nat_eq count) (4 ∷ [])) others) [
          | inl three ↦ let same = eqb-true count 3 three in omega (arith, same)
          | inr last ↦ elim (or_cases (nat_eq count 4) false last) [
            | inl four ↦ let same = eqb-true count 4 four in omega (arith, same)
            | inr none ↦ absurd cc
          ]
        ]
      ]
    ]

kind_is_named : (width : Width) (count : ℕ) → IsCount count → kind_named (kind_word (record { width = width; count = count })) ≡ Some (record { width = width; count = count })
unfolding kind_named digits
kind_is_named W1 zero e = absurd cc
kind_is_named W1 (suc zero) e = refl
kind_is_named W1 (suc (suc zero)) e = refl
kind_is_named W1 (suc (suc (suc zero))) e = refl
kind_is_named W1 (suc (suc (suc (suc zero)))) e = refl
kind_is_named W1 (suc (suc (suc (suc (suc n))))) e = let few = IsCount-few (suc (suc (suc (suc (suc n))))) e in absurd (omega (arith, few))
kind_is_named W8 zero e = absurd cc
kind_is_named W8 (suc zero) e = refl
kind_is_named W8 (suc (suc zero)) e = refl
kind_is_named W8 (suc (suc (suc zero))) e = refl
kind_is_named W8 (suc (suc (suc (suc zero)))) e = refl
kind_is_named W8 (suc (suc (suc (suc (suc n))))) e = let few = IsCount-few (suc (suc (suc (suc (suc n))))) e in absurd (omega (arith, few))
kind_is_named W16 zero e = absurd cc
kind_is_named W16 (suc zero) e = refl
kind_is_named W16 (suc (suc zero)) e = refl
kind_is_named W16 (suc (suc (suc zero))) e = refl
kind_is_named W16 (suc (suc (suc (suc zero)))) e = refl
kind_is_named W16 (suc (suc (suc (suc (suc n))))) e = let few = IsCount-few (suc (suc (suc (suc (suc n))))) e in absurd (omega (arith, few))
kind_is_named W32 zero e = absurd cc
kind_is_named W32 (suc zero) e = refl
kind_is_named W32 (suc (suc zero)) e = refl
kind_is_named W32 (suc (suc (suc zero))) e = refl
kind_is_named W32 (suc (suc (suc (suc zero)))) e = refl
kind_is_named W32 (suc (suc (suc (suc (suc n))))) e = let few = IsCount-few (suc (suc (suc (suc (suc n))))) e in absurd (omega (arith, few))
kind_is_named W64 zero e = absurd cc
kind_is_named W64 (suc zero) e = refl
kind_is_named W64 (suc (suc zero)) e = refl
kind_is_named W64 (suc (suc (suc zero))) e = refl
kind_is_named W64 (suc (suc (suc (suc zero)))) e = refl
kind_is_named W64 (suc (suc (suc (suc (suc n))))) e = let few = IsCount-few (suc (suc (suc (suc (suc n))))) e in absurd (omega (arith, few))

pub kind_named-kind_word : (kind : Kind) → IsCount kind.count → kind_named (kind_word kind) ≡ Some kind
kind_named-kind_word kind e = kind_is_named kind.width kind.count e

abbrev IsRow : KindWord → Type 0
IsRow entry = (entry.word ≡ kind_word entry.kind) × IsCount entry.kind.count

rows : AllByRecursion IsRow kind_words
unfolding digits
rows = ((refl, refl), ((refl, refl), ((refl, refl), ((refl, refl), ((refl, refl), ((refl, refl), ((refl, refl), ((refl, refl), ((refl, refl), ((refl, refl), ((refl, refl), ((refl, refl), ((refl, refl), ((refl, refl), ((refl, refl), ((refl, refl), ((refl, refl), ((refl, refl), ((refl, refl), ((refl, refl), tt))))))))))))))))))))

found_row : (test : KindWord → Bool) (entries : List KindWord) (kind : Kind) → AllByRecursion IsRow entries → option_map (λ entry. entry.kind) (find test entries) ≡ Some kind
    → (entry : KindWord) × IsRow entry × (test entry ≡ true) × (entry.kind ≡ kind)
found_row test [] kind all e = absurd cc
found_row test (entry ∷ entries) kind all e =
    let Found : Type 0 = (found : KindWord) × IsRow found × (test found ≡ true) × (found.kind ≡ kind) in
    let by_test : (b : Bool) → test entry ≡ b → option_map (λ (entry : KindWord). entry.kind) (cond b (Some entry) (find test entries)) ≡ Some kind → Found =
    λ b. elim b as (λ v. test entry ≡ v → option_map (λ (entry : KindWord). entry.kind) (cond v (Some entry) (find test entries)) ≡ Some kind → Found) [
      | true ↦ λ is same. (entry, all.0, is, same_Some entry.kind kind same)
      | false ↦ λ is other. found_row test entries kind all.1 other
    ] in
    by_test (test entry) refl e

pub kind_named-is : (word : List ℕ) (kind : Kind) → kind_named word ≡ Some kind → (word ≡ kind_word kind) × IsCount kind.count
unfolding kind_named
kind_named-is word kind e =
    let found = found_row (λ entry. bytes_eq entry.word word) kind_words kind rows e in
    let same : found.0.word ≡ word = (bytes_eq-Decides found.0.word word).0 found.2 in
    subst (λ (k : Kind). (word ≡ kind_word k) × IsCount k.count) found.3 (sym same ∙ found.1.0, found.1.1)

-- no kind is the word `block`
pub kind_word-other : (kind : Kind) → IsCount kind.count → bytes_eq (kind_word kind) (codes "block") ≡ false
unfolding digits
kind_word-other kind e = differ kind.width kind.count e
  where
    differ : (width : Width) (count : ℕ) → IsCount count → bytes_eq (kind_word (record { width = width; count = count })) (codes "block") ≡ false
    differ W1 count e = refl
    differ W8 count e = refl
    differ W16 count e = refl
    differ W32 count e = refl
    differ W64 count e = refl

-- ---- opcodes

nothing_named : AllByRecursion (λ word. op_named word ≡ None) keywords
unfolding op_named all_ops name_of row_of
nothing_named = (refl, (refl, (refl, (refl, (refl, (refl, (refl, (refl, (refl, (refl, (refl, (refl, (refl, (refl, (refl, (refl, (refl, tt)))))))))))))))))

keyword_names_nothing : (word : List ℕ) (words : List (List ℕ)) → AllByRecursion (λ other. op_named other ≡ None) words → list_any (λ other. bytes_eq other word) words ≡ true → op_named word ≡ None
keyword_names_nothing word [] none is = absurd cc
keyword_names_nothing word (other ∷ others) none is =
    elim (or_cases (bytes_eq other word) (list_any (λ o. bytes_eq o word) others) is) [
      | inl same ↦ subst (λ (w : List ℕ). op_named w ≡ None) ((bytes_eq-Decides other word).0 same) none.0
      | inr later ↦ keyword_names_nothing word others none.1 later
    ]

pub name_of-no_keyword : (op : Op) → is_keyword (name_of op) ≡ false
unfolding is_keyword
name_of-no_keyword op =
    let by_test : (b : Bool) → list_any (λ other. bytes_eq other (name_of op)) keywords ≡ b → b ≡ false =
    λ b. elim b as (λ v. list_any (λ other. bytes_eq other (name_of op)) keywords ≡ v → v ≡ false) [
      | true ↦ λ is. let none = keyword_names_nothing (name_of op) keywords nothing_named is in absurd (let e = sym none ∙ op_named-name_of op in cc)
      | false ↦ λ is. refl
    ] in
    by_test (list_any (λ other. bytes_eq other (name_of op)) keywords) refl

keyword_differs : (words : List (List ℕ)) (word other : List ℕ) → list_any (λ w. bytes_eq w other) words ≡ true → list_any (λ w. bytes_eq w word) words ≡ false → bytes_eq word other ≡ false
keyword_differs words word other is isnt =
    let by_test : (b : Bool) → bytes_eq word other ≡ b → b ≡ false =
    λ b. elim b as (λ v. bytes_eq word other ≡ v → v ≡ false) [
      | true ↦ λ same. let e = sym isnt ∙ ap (λ o. list_any (λ w. bytes_eq w o) words) ((bytes_eq-Decides word other).0 same) ∙ is in absurd cc
      | false ↦ λ same. refl
    ] in
    by_test (bytes_eq word other) refl

-- no opcode is a word of the grammar
pub name_of-other : (op : Op) (word : List ℕ) → is_keyword word ≡ true → bytes_eq (name_of op) word ≡ false
unfolding is_keyword
name_of-other op word is = keyword_differs keywords (name_of op) word is (name_of-no_keyword op)

-- ---- swizzles

letter_is : (component : ℕ) → component < 4 → letter_of (get_or (codes "xyzw") component 0) ≡ Some component
letter_is zero lt = refl
letter_is (suc zero) lt = refl
letter_is (suc (suc zero)) lt = refl
letter_is (suc (suc (suc zero))) lt = refl
letter_is (suc (suc (suc (suc n)))) lt = absurd (omega arith)

letters_are : (swizzle : List ℕ) → AllByRecursion (λ entry. entry < 4) swizzle → letters_of (swizzle_word swizzle) ≡ Some swizzle
letters_are [] all = refl
letters_are (component ∷ components) all = rw (letter_is component all.0, letters_are components all.1) refl

length-swizzle_word : (swizzle : List ℕ) → length (swizzle_word swizzle) ≡ length swizzle
length-swizzle_word [] = refl
length-swizzle_word (component ∷ components) = ap suc (length-swizzle_word components)

pub swizzle_of-swizzle_word : (swizzle : List ℕ) → IsSwizzle swizzle → swizzle_of (swizzle_word swizzle) ≡ Some swizzle
unfolding swizzle_of
swizzle_of-swizzle_word swizzle is =
    let some : nat_lt 0 (length (swizzle_word swizzle)) ≡ true = lt-ltb 0 (length (swizzle_word swizzle)) (omega (arith, is.some, length-swizzle_word swizzle)) in
    let few : nat_lt (length (swizzle_word swizzle)) 5 ≡ true = lt-ltb (length (swizzle_word swizzle)) 5 (omega (arith, is.few, length-swizzle_word swizzle)) in
    rw (some, few) (letters_are swizzle is.components)

by_bool : {P : Type 0} (b : Bool) (found other : Option ℕ) (x : ℕ) → cond b found other ≡ Some x → (b ≡ true → found ≡ Some x → P) → (b ≡ false → other ≡ Some x → P) → P
by_bool true found other x e here there = here refl e
by_bool false found other x e here there = there refl e

letter_of-is : (byte component : ℕ) → letter_of byte ≡ Some component → (byte ≡ get_or (codes "xyzw") component 0) × (component < 4)
letter_of-is byte component e =
    let Is : Type 0 = (byte ≡ get_or (codes "xyzw") component 0) × (component < 4) in
    let one : (letter n : ℕ) → n < 4 → get_or (codes "xyzw") n 0 ≡ letter → byte ≡ letter → Some n ≡ Some component → Is =
    λ letter n lt at same found. subst (λ (c : ℕ). (byte ≡ get_or (codes "xyzw") c 0) × (c < 4)) (same_Some n component found) (same ∙ sym at, lt) in
    let test : (letter : ℕ) (found other : Option ℕ) → cond (nat_eq byte letter) found other ≡ Some component → (byte ≡ letter → found ≡ Some component → Is) → (other ≡ Some component → Is) → Is =
    λ letter found other is here there. by_bool (nat_eq byte letter) found other component is (λ t. here (eqb-true byte letter t)) (λ _. there) in
    test 120 (Some 0) _ e (one 120 0 (omega arith) refl) (λ second.
    test 121 (Some 1) _ second (one 121 1 (omega arith) refl) (λ third.
    test 122 (Some 2) _ third (one 122 2 (omega arith) refl) (λ fourth.
    test 119 (Some 3) None fourth (one 119 3 (omega arith) refl) (λ none. absurd (let n = none in cc)))))

record AreLetters (bytes components : List ℕ) : Type 0 where
  word : bytes ≡ swizzle_word components
  below : AllByRecursion (λ entry. entry < 4) components

letter_before-some : (component : ℕ) (others : Option (List ℕ)) (all : List ℕ) → letter_before component others ≡ Some all → (rest : List ℕ) × (others ≡ Some rest) × (component ∷ rest ≡ all)
letter_before-some component None all e = absurd cc
letter_before-some component (Some others) all e = (others, refl, same_Some (component ∷ others) all e)

letters_of-are : (bytes components : List ℕ) → letters_of bytes ≡ Some components → AreLetters bytes components
letters_of-are [] components e = subst (AreLetters []) (same_Some [] components e) (record { word = refl; below = tt })
letters_of-are (byte ∷ bytes) components e =
    option_and_then_some (λ component. letter_before component (letters_of bytes)) (letter_of byte) components e
    (λ component first others.
    let parts = letter_before-some component (letters_of bytes) components others in
    let letter = letter_of-is byte component first in
    let more = letters_of-are bytes parts.0 parts.1 in
    subst (AreLetters (byte ∷ bytes)) parts.2 (record { word = (λ j. letter.0 j ∷ more.word j); below = (letter.1, more.below) }))

pub swizzle_of-is : (word swizzle : List ℕ) → swizzle_of word ≡ Some swizzle → (word ≡ swizzle_word swizzle) × IsSwizzle swizzle
unfolding swizzle_of
swizzle_of-is word swizzle e =
    let by_test : (b : Bool) → (nat_lt 0 (length word) && nat_lt (length word) 5) ≡ b → cond b (letters_of word) None ≡ Some swizzle → (word ≡ swizzle_word swizzle) × IsSwizzle swizzle =
    λ b. elim b as (λ v. (nat_lt 0 (length word) && nat_lt (length word) 5) ≡ v → cond v (letters_of word) None ≡ Some swizzle → (word ≡ swizzle_word swizzle) × IsSwizzle swizzle) [
      | true ↦ λ test found.
          let parts = and_parts (nat_lt 0 (length word)) (nat_lt (length word) 5) test in
          let some : 0 < length word = ltb-true 0 (length word) parts.0 in
          let few : length word < 5 = ltb-true (length word) 5 parts.1 in
          let letters = letters_of-are word swizzle found in
          let len : length word ≡ length swizzle = ap length letters.word ∙ length-swizzle_word swizzle in
          (letters.word, record { some = omega (arith, len, some); few = omega (arith, len, few); components = letters.below })
      | false ↦ λ test found. absurd cc
    ] in
    by_test (nat_lt 0 (length word) && nat_lt (length word) 5) refl e

-- no swizzle is the word `block`
pub swizzle_word-other : (swizzle : List ℕ) → IsSwizzle swizzle → bytes_eq (swizzle_word swizzle) (codes "block") ≡ false
swizzle_word-other swizzle is =
    let by_test : (b : Bool) → bytes_eq (swizzle_word swizzle) (codes "block") ≡ b → b ≡ false =
    λ b. elim b as (λ v. bytes_eq (swizzle_word swizzle) (codes "block") ≡ v → v ≡ false) [
      | true ↦ λ same.
          let len : length swizzle ≡ 5 = sym (length-swizzle_word swizzle) ∙ ap length ((bytes_eq-Decides (swizzle_word swizzle) (codes "block")).0 same) in
          absurd (omega (arith, len, is.few))
      | false ↦ λ same. refl
    ] in
    by_test (bytes_eq (swizzle_word swizzle) (codes "block")) refl

-- ---- numbers

half_is_less : (width : Width) → 2 ^ (width_bits width - 1) ≤ 2 ^ width_bits width
half_is_less W1 = omega arith
half_is_less W8 = omega arith
half_is_less W16 = omega arith
half_is_less W32 = omega arith
half_is_less W64 = omega arith

pub component_of-given : (width : Width) (number : ℤ) (component : ℕ) → Gives (width_bits width) number component → component_of (width_bits width) number ≡ Some component
component_of-given width (pos n) component is = rw (lt-ltb n (2 ^ width_bits width) is.1) (ap Some is.0)
component_of-given width (negsuc n) component is =
    let same : 2 ^ width_bits width - suc n ≡ component = omega (arith, is.0) in
    rw (lt-ltb n (2 ^ (width_bits width - 1)) is.1) (ap Some same)

pub component_of-gives : (width : Width) (number : ℤ) (component : ℕ) → component_of (width_bits width) number ≡ Some component → Gives (width_bits width) number component
component_of-gives width (pos n) component e =
    let c = cond_some (nat_lt n (2 ^ width_bits width)) n component e in
    (c.1, ltb-true n (2 ^ width_bits width) c.0)
component_of-gives width (negsuc n) component e =
    let c = cond_some (nat_lt n (2 ^ (width_bits width - 1))) (2 ^ width_bits width - suc n) component e in
    let lt : n < 2 ^ (width_bits width - 1) = ltb-true n (2 ^ (width_bits width - 1)) c.0 in
    let same : component + suc n ≡ 2 ^ width_bits width = omega (arith, c.1, lt, half_is_less width) in
    (same, lt)

pub index_of-is : (number : ℤ) (n : ℕ) → index_of number ≡ Some n → (number ≡ pos n) × (n < 2 ^ 32)
index_of-is (pos m) n e =
    let c = cond_some (nat_lt m (2 ^ 32)) m n e in
    (ap pos c.1, subst (λ (k : ℕ). k < 2 ^ 32) c.1 (ltb-true m (2 ^ 32) c.0))
index_of-is (negsuc m) n e = absurd cc

pub index_of-pos : (n : ℕ) → n < 2 ^ 32 → index_of (pos n) ≡ Some n
index_of-pos n lt = rw (lt-ltb n (2 ^ 32) lt) refl
