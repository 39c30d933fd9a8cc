-- Kinds, swizzles and components as words: each kind has 1 to 4 components, and so has each value by its definition.
use Rattle.std.proofs.Common.{◌≡◌, ℕ, zero, suc, ◌-◌, ◌^◌, ◌<◌, ◌≤◌, Bool, true, false, cond, ◌&&◌, List, [], ◌∷◌, ◌++◌, length, drop, ℤ, pos, negsuc, Option, Some, None, is_some, nat_eq, nat_lt, find, codes, refl, ap, subst, inl, inr, arith, ltb-true, eqb-true, pow_pos}
use Rattle.std.specs.Option.{option_map, option_map_or, option_and_then}
use Rattle.std.specs.Str.{bytes_eq}
use Rattle.std.specs.List.{AllByRecursion, list_any, range_with_len}
use Rattle.std.proofs.lemmas.Bool.{and_parts, or_cases, cond_both}
use Rattle.std.proofs.lemmas.Option.{cond_some, option_and_then_some, same_Some}
use Rattle.nir_ir.specs.declared.ids.ValueId.{ValueId}
use Rattle.nir_ir.specs.declared.kind.Kind.{Kind}
use Rattle.nir_ir.specs.Shaped.{IsCount, IsSwizzle}
use Rattle.nir_text.specs.Signs.{Sign, word_of, name_of, is_mark, is_word, first_of}
use Rattle.nir_text.specs.Kinds.{KindWord, kind_words, kind_named}
use Rattle.nir_text.specs.Naming.{Naming, no_names, place_of, count_behind, with_value, value_noted, block_noted, noted, naming_from, naming_of}
use Rattle.nir_text.specs.Instrs.{component_of, letter_of, letter_before, letters_of, swizzle_of, count_of}
use Rattle.list_laws.specs.AllLaws.{all_append}

-- ---- kinds

-- the test of each row of the table
counts_hold : List KindWord → Bool
counts_hold [] = true
counts_hold (entry ∷ entries) = list_any (nat_eq entry.kind.count) (1 ∷ 2 ∷ 3 ∷ 4 ∷ []) && counts_hold entries

found_kind : (test : KindWord → Bool) (entries : List KindWord) (kind : Kind) → counts_hold entries ≡ true → option_map (λ entry. entry.kind) (find test entries) ≡ Some kind → IsCount kind.count
unfolding counts_hold
found_kind test [] kind hold e = absurd cc
found_kind test (entry ∷ entries) kind hold e =
    let parts = and_parts (list_any (nat_eq entry.kind.count) (1 ∷ 2 ∷ 3 ∷ 4 ∷ [])) (counts_hold entries) hold in
    let by_test : (b : Bool) → option_map (λ (entry : KindWord). entry.kind) (cond b (Some entry) (find test entries)) ≡ Some kind → IsCount kind.count =
    λ b. elim b as (λ v. option_map (λ (entry : KindWord). entry.kind) (cond v (Some entry) (find test entries)) ≡ Some kind → IsCount kind.count) [
      | true ↦ λ same. subst (λ (k : Kind). IsCount k.count) (same_Some entry.kind kind same) parts.0
      | false ↦ λ other. found_kind test entries kind parts.1 other
    ] in
    by_test (test entry) e

pub kind_named-IsCount : (word : List ℕ) (kind : Kind) → kind_named word ≡ Some kind → IsCount kind.count
unfolding kind_named counts_hold
kind_named-IsCount word kind e = found_kind (λ entry. bytes_eq entry.word word) kind_words kind refl e

pub kind_of_word-IsCount : (word : Option (List ℕ)) (kind : Kind) → option_and_then kind_named word ≡ Some kind → IsCount kind.count
kind_of_word-IsCount None kind e = absurd cc
kind_of_word-IsCount (Some word) kind e = kind_named-IsCount word kind e

-- ---- the number of components of each value

count_or_one : (kind : Option Kind) → ((k : Kind) → kind ≡ Some k → IsCount k.count) → IsCount (option_map_or (λ k. k.count) kind 1)
count_or_one None found = refl
count_or_one (Some kind) found = found kind refl

count_behind-IsCount : (behind : List Sign) → IsCount (count_behind behind)
count_behind-IsCount behind = count_or_one (option_and_then kind_named (word_of (first_of (drop 2 behind)))) (kind_of_word-IsCount (word_of (first_of (drop 2 behind))))

abbrev HaveCounts : Naming → Type 0
HaveCounts names = AllByRecursion IsCount names.counts

with_value-HaveCounts : (name : List ℕ) (count : ℕ) (names : Naming) → IsCount count → HaveCounts names → HaveCounts (with_value name count names)
with_value-HaveCounts name count names one all =
    cond_both (is_some (place_of name names.values)) names (record names { values = names.values ++ name ∷ []; counts = names.counts ++ count ∷ [] }) HaveCounts (λ _. all)
    (λ _. all_append IsCount names.counts (count ∷ []) all (one, tt))

value_noted-HaveCounts : (name : Option (List ℕ)) (behind : List Sign) (names : Naming) → HaveCounts names → HaveCounts (value_noted name behind names)
value_noted-HaveCounts None behind names all = all
value_noted-HaveCounts (Some name) behind names all =
    cond_both (is_mark 61 (first_of behind)) (with_value name (count_behind behind) names) names HaveCounts (λ _. with_value-HaveCounts name (count_behind behind) names (count_behind-IsCount behind) all) (λ _. all)

block_noted-HaveCounts : (begins : Bool) (word : Option (List ℕ)) (names : Naming) → HaveCounts names → HaveCounts (block_noted begins word names)
block_noted-HaveCounts false word names all = all
block_noted-HaveCounts true None names all = all
block_noted-HaveCounts true (Some word) names all =
    cond_both (is_some (place_of word names.blocks)) names (record names { blocks = names.blocks ++ word ∷ [] }) HaveCounts (λ _. all) (λ _. all)

naming_from-HaveCounts : (names : Naming) (signs : List Sign) → HaveCounts names → HaveCounts (naming_from names signs)
unfolding naming_from noted
naming_from-HaveCounts names [] all = all
naming_from-HaveCounts names (sign ∷ behind) all =
    naming_from-HaveCounts (noted sign behind names) behind
    (block_noted-HaveCounts (is_word (codes "block") sign) (word_of (first_of behind)) (value_noted (name_of sign) behind names) (value_noted-HaveCounts (name_of sign) behind names all))

pub naming_of-HaveCounts : (signs : List Sign) → AllByRecursion IsCount (naming_of signs).counts
naming_of-HaveCounts signs = naming_from-HaveCounts no_names signs tt

count_at-IsCount : (counts : List ℕ) (n : ℕ) (values blocks : List (List ℕ)) → AllByRecursion IsCount counts → IsCount (count_of (record { values = values; counts = counts; blocks = blocks }) (record { 0 = n }))
count_at-IsCount [] n values blocks all = refl
count_at-IsCount (count ∷ counts) zero values blocks all = all.0
count_at-IsCount (count ∷ counts) (suc n) values blocks all = count_at-IsCount counts n values blocks all.1

pub count_of-IsCount : (names : Naming) (value : ValueId) → AllByRecursion IsCount names.counts → IsCount (count_of names value)
count_of-IsCount names value all = count_at-IsCount names.counts value.0 names.values names.blocks all

-- ---- swizzles

pub IsCount-few : (count : ℕ) → IsCount count → count ≤ 4
IsCount-few count e =
    elim (or_cases (nat_eq count 1) (list_any (nat_eq count) (2 ∷ 3 ∷ 4 ∷ [])) e) [
      | inl one ↦ let same = eqb-true count 1 one in omega (arith, same)
      | inr more ↦ elim (or_cases (nat_eq count 2) (list_any (nat_eq count) (3 ∷ 4 ∷ [])) more) [
        | inl two ↦ let same = eqb-true count 2 two in omega (arith, same)
        | inr others ↦ elim (or_cases (nat_eq count 3) (list_any (nat_eq count) (4 ∷ [])) others) [
          | inl three ↦ let same = eqb-true count 3 three in omega (arith, same)
          | inr last ↦ elim (or_cases (nat_eq count 4) false last) [
            | inl four ↦ let same = eqb-true count 4 four in omega (arith, same)
            | inr none ↦ absurd cc
          ]
        ]
      ]
    ]

-- all components in order
pub range-IsSwizzle : (count : ℕ) → IsCount count → IsSwizzle (range_with_len 0 count)
range-IsSwizzle zero e = absurd cc
range-IsSwizzle (suc zero) e = record { some = omega arith; few = omega arith; components = (omega arith, tt) }
range-IsSwizzle (suc (suc zero)) e = record { some = omega arith; few = omega arith; components = (omega arith, (omega arith, tt)) }
range-IsSwizzle (suc (suc (suc zero))) e = record { some = omega arith; few = omega arith; components = (omega arith, (omega arith, (omega arith, tt))) }
range-IsSwizzle (suc (suc (suc (suc zero)))) e = record { some = omega arith; few = omega arith; components = (omega arith, (omega arith, (omega arith, (omega arith, tt)))) }
range-IsSwizzle (suc (suc (suc (suc (suc n))))) e = let few = IsCount-few (suc (suc (suc (suc (suc n))))) e in absurd (omega (arith, few))

letter_of-below : (byte component : ℕ) → letter_of byte ≡ Some component → component < 4
letter_of-below byte component e = grind arith

-- as many letters as bytes, each the number of a component
record AreLetters (bytes components : List ℕ) : Type 0 where
  len : length components ≡ length bytes
  below : AllByRecursion (λ entry. entry < 4) components

letter_before-some : (component : ℕ) (others : Option (List ℕ)) (all : List ℕ) → letter_before component others ≡ Some all → (rest : List ℕ) × (others ≡ Some rest) × (component ∷ rest ≡ all)
letter_before-some component None all e = absurd cc
letter_before-some component (Some others) all e = (others, refl, same_Some (component ∷ others) all e)

letters_of-AreLetters : (bytes components : List ℕ) → letters_of bytes ≡ Some components → AreLetters bytes components
letters_of-AreLetters [] components e = subst (AreLetters []) (same_Some [] components e) (record { len = refl; below = tt })
letters_of-AreLetters (byte ∷ bytes) components e =
    option_and_then_some (λ component. letter_before component (letters_of bytes)) (letter_of byte) components e
    (λ component first others.
    let parts = letter_before-some component (letters_of bytes) components others in
    let more = letters_of-AreLetters bytes parts.0 parts.1 in
    subst (AreLetters (byte ∷ bytes)) parts.2 (record { len = ap suc more.len; below = (letter_of-below byte component first, more.below) }))

pub swizzle_of-IsSwizzle : (word swizzle : List ℕ) → swizzle_of word ≡ Some swizzle → IsSwizzle swizzle
unfolding swizzle_of
swizzle_of-IsSwizzle word swizzle e =
    let by_test : (b : Bool) → (nat_lt 0 (length word) && nat_lt (length word) 5) ≡ b → cond b (letters_of word) None ≡ Some swizzle → IsSwizzle swizzle =
    λ b. elim b as (λ v. (nat_lt 0 (length word) && nat_lt (length word) 5) ≡ v → cond v (letters_of word) None ≡ Some swizzle → IsSwizzle swizzle) [
      | true ↦ λ test found.
          let parts = and_parts (nat_lt 0 (length word)) (nat_lt (length word) 5) test in
          let some : 0 < length word = ltb-true 0 (length word) parts.0 in
          let few : length word < 5 = ltb-true (length word) 5 parts.1 in
          let letters = letters_of-AreLetters word swizzle found in
          record { some = omega arith; few = omega arith; components = letters.below }
      | false ↦ λ test found. absurd cc
    ] in
    by_test (nat_lt 0 (length word) && nat_lt (length word) 5) refl e

pub swizzle_of_word-IsSwizzle : (word : Option (List ℕ)) (swizzle : List ℕ) → option_and_then swizzle_of word ≡ Some swizzle → IsSwizzle swizzle
swizzle_of_word-IsSwizzle None swizzle e = absurd cc
swizzle_of_word-IsSwizzle (Some word) swizzle e = swizzle_of-IsSwizzle word swizzle e

-- ---- components

pub component_of-fits : (bits : ℕ) (number : Option ℤ) (comp : ℕ) → option_and_then (component_of bits) number ≡ Some comp → comp < 2 ^ bits
component_of-fits bits None comp e = absurd cc
component_of-fits bits (Some (pos n)) comp e =
    let c = cond_some (nat_lt n (2 ^ bits)) n comp e in
    subst (λ (m : ℕ). m < 2 ^ bits) c.1 (ltb-true n (2 ^ bits) c.0)
component_of-fits bits (Some (negsuc n)) comp e =
    let c = cond_some (nat_lt n (2 ^ (bits - 1))) (2 ^ bits - suc n) comp e in
    let some : 0 < 2 ^ bits = pow_pos bits in
    let below : 2 ^ bits - suc n < 2 ^ bits = omega arith in
    subst (λ (m : ℕ). m < 2 ^ bits) c.1 below
