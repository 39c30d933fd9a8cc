-- How the names of a text grow token by token.
use Rattle.std.proofs.Common.{◌≡◌, ℕ, zero, suc, ◌+◌, ◌-◌, ◌<◌, ◌≤◌, Bool, true, false, cond, List, [], ◌∷◌, ◌++◌, length, take, drop, get_or, Option, None, Some, is_some, sym, ap, subst, ◌∙◌, refl, arith, length-append}
use Rattle.std.proofs.Math.Seq.{take-length}
use Rattle.std.specs.Prelude.{slice_get, codes}
use Rattle.std.specs.Option.{unwrap_or}
use Rattle.nir_ir.specs.declared.ids.ValueId.{ValueId}
use Rattle.nir_lex.specs.declared.token.Token.{Token}
use Rattle.nir_text.specs.declared.counts.Counts.{Counts}
use Rattle.nir_text.specs.Instrs.{count_of}
use Rattle.nir_text.specs.Naming.{Naming, place_of, count_behind, with_value, value_noted, block_noted, noted, naming_from, is_unknown, first_unknown}
use Rattle.nir_text.specs.Signs.{Sign, sign_of, signs_of, word_of, name_of, is_mark, is_word, first_of}
use Rattle.nir_text.specs.Within.{AreWithin}

-- what stands behind the first item
abbrev behind_of : List Token → List Token
behind_of tokens = take (length tokens - 1) (drop 1 tokens)

behind_of-cons : (token : Token) (tokens : List Token) → behind_of (token ∷ tokens) ≡ tokens
behind_of-cons token tokens = let e : length (token ∷ tokens) - 1 ≡ length tokens = omega arith in ap (λ n. take n tokens) e ∙ take-length tokens

pub within-behind : (size : ℕ) (tokens : List Token) → AreWithin size tokens → AreWithin size (behind_of tokens)
within-behind size [] h = tt
within-behind size (token ∷ tokens) h = subst (AreWithin size) (sym (behind_of-cons token tokens)) h.1

pub length-behind : (tokens : List Token) → 1 ≤ length tokens → length (behind_of tokens) + 1 ≡ length tokens
length-behind [] h = absurd (omega arith)
length-behind (token ∷ tokens) h = let e : length (behind_of (token ∷ tokens)) ≡ length tokens = ap length (behind_of-cons token tokens) in omega arith

-- ---- one token

pub noted_by : (here sign next : Sign) (behind : List Sign) (old mid new : Naming)
    → here ≡ sign
    → next ≡ first_of behind
    → mid ≡ value_noted (name_of here) behind old
    → new ≡ block_noted (is_word (codes "block") here) (word_of next) mid
    → new ≡ noted sign behind old
unfolding noted
noted_by here sign next behind old mid new is first value block =
    block ∙ (λ j. block_noted (is_word (codes "block") (is j)) (word_of (first j)) ((value ∙ ap (λ s. value_noted (name_of s) behind old) is) j))

-- new has at most one more value, and at most one more block
pub record IsLittleMore (old new : Naming) : Type 0 where
  pub values : length new.values ≤ length old.values + 1
  pub blocks : length new.blocks ≤ length old.blocks + 1

chosen-values : (b : Bool) (x y : Naming) (n : ℕ) → length x.values ≤ n → length y.values ≤ n → length (cond b x y).values ≤ n
chosen-values true x y n h k = h
chosen-values false x y n h k = k

chosen-blocks : (b : Bool) (x y : Naming) (n : ℕ) → length x.blocks ≤ n → length y.blocks ≤ n → length (cond b x y).blocks ≤ n
chosen-blocks true x y n h k = h
chosen-blocks false x y n h k = k

values-with_value : (name : List ℕ) (count : ℕ) (names : Naming) → length (with_value name count names).values ≤ length names.values + 1
values-with_value name count names =
    let longer : length (names.values ++ name ∷ []) ≤ length names.values + 1 = omega (arith, length-append names.values (name ∷ [])) in
    chosen-values (is_some (place_of name names.values)) names (record names { values = names.values ++ name ∷ []; counts = names.counts ++ count ∷ [] }) (length names.values + 1) (omega arith) longer

blocks-with_value : (name : List ℕ) (count : ℕ) (names : Naming) → length (with_value name count names).blocks ≤ length names.blocks
blocks-with_value name count names =
    chosen-blocks (is_some (place_of name names.values)) names (record names { values = names.values ++ name ∷ []; counts = names.counts ++ count ∷ [] }) (length names.blocks) (omega arith) (omega arith)

values-value_noted : (name : Option (List ℕ)) (behind : List Sign) (names : Naming) → length (value_noted name behind names).values ≤ length names.values + 1
values-value_noted None behind names = omega arith
values-value_noted (Some name) behind names =
    chosen-values (is_mark 61 (first_of behind)) (with_value name (count_behind behind) names) names (length names.values + 1) (values-with_value name (count_behind behind) names) (omega arith)

blocks-value_noted : (name : Option (List ℕ)) (behind : List Sign) (names : Naming) → length (value_noted name behind names).blocks ≤ length names.blocks
blocks-value_noted None behind names = omega arith
blocks-value_noted (Some name) behind names =
    chosen-blocks (is_mark 61 (first_of behind)) (with_value name (count_behind behind) names) names (length names.blocks) (blocks-with_value name (count_behind behind) names) (omega arith)

values-block_noted : (is_block : Bool) (word : Option (List ℕ)) (names : Naming) → length (block_noted is_block word names).values ≤ length names.values
values-block_noted false word names = omega arith
values-block_noted true None names = omega arith
values-block_noted true (Some word) names =
    chosen-values (is_some (place_of word names.blocks)) names (record names { blocks = names.blocks ++ word ∷ [] }) (length names.values) (omega arith) (omega arith)

blocks-block_noted : (is_block : Bool) (word : Option (List ℕ)) (names : Naming) → length (block_noted is_block word names).blocks ≤ length names.blocks + 1
blocks-block_noted false word names = omega arith
blocks-block_noted true None names = omega arith
blocks-block_noted true (Some word) names =
    let longer : length (names.blocks ++ word ∷ []) ≤ length names.blocks + 1 = omega (arith, length-append names.blocks (word ∷ [])) in
    chosen-blocks (is_some (place_of word names.blocks)) names (record names { blocks = names.blocks ++ word ∷ [] }) (length names.blocks + 1) (omega arith) longer

pub grows-noted : (sign : Sign) (behind : List Sign) (names : Naming) → IsLittleMore names (noted sign behind names)
unfolding noted
grows-noted sign behind names =
    let mid = value_noted (name_of sign) behind names in
    let word = word_of (first_of behind) in
    let is_block = is_word (codes "block") sign in
    let a : length mid.values ≤ length names.values + 1 = values-value_noted (name_of sign) behind names in
    let b : length mid.blocks ≤ length names.blocks = blocks-value_noted (name_of sign) behind names in
    let v : length (block_noted is_block word mid).values ≤ length mid.values = values-block_noted is_block word mid in
    let w : length (block_noted is_block word mid).blocks ≤ length mid.blocks + 1 = blocks-block_noted is_block word mid in
    record { values = omega arith; blocks = omega arith }

-- ---- the first of several tokens

module _ (text : List ℕ) (first : Token) where
  pub naming_from-first : (old new : Naming) (tokens : List Token)
      → 1 ≤ length tokens
      → new ≡ noted (sign_of text (get_or tokens 0 first)) (signs_of text (behind_of tokens)) old
      → naming_from new (signs_of text (behind_of tokens)) ≡ naming_from old (signs_of text tokens)
  unfolding naming_from
  naming_from-first old new [] h e = absurd (omega arith)
  naming_from-first old new (token ∷ tokens) h e =
      let s : behind_of (token ∷ tokens) ≡ tokens = behind_of-cons token tokens in
      (λ j. naming_from (e j) (signs_of text (s j))) ∙ ap (λ rest. naming_from (noted (sign_of text token) (signs_of text rest) old) (signs_of text tokens)) s

  pub first_unknown-known : (names : Naming) (counts : Counts) (tokens : List Token)
      → 1 ≤ length tokens
      → is_unknown names counts (sign_of text (get_or tokens 0 first)) (signs_of text (behind_of tokens)) ≡ false
      → first_unknown names counts (signs_of text (behind_of tokens)) ≡ first_unknown names counts (signs_of text tokens)
  unfolding first_unknown
  first_unknown-known names counts [] h e = absurd (omega arith)
  first_unknown-known names counts (token ∷ tokens) h e =
      let s : behind_of (token ∷ tokens) ≡ tokens = behind_of-cons token tokens in
      let u : is_unknown names counts (sign_of text token) (signs_of text tokens) ≡ false = ap (λ rest. is_unknown names counts (sign_of text token) (signs_of text rest)) (sym s) ∙ e in
      ap (λ rest. first_unknown names counts (signs_of text rest)) s ∙ ap (λ b. cond b (Some token.start) (first_unknown names counts (signs_of text tokens))) (sym u)

  pub first_unknown-unknown : (names : Naming) (counts : Counts) (tokens : List Token)
      → 1 ≤ length tokens
      → is_unknown names counts (sign_of text (get_or tokens 0 first)) (signs_of text (behind_of tokens)) ≡ true
      → Some (get_or tokens 0 first).start ≡ first_unknown names counts (signs_of text tokens)
  unfolding first_unknown
  first_unknown-unknown names counts [] h e = absurd (omega arith)
  first_unknown-unknown names counts (token ∷ tokens) h e =
      let s : behind_of (token ∷ tokens) ≡ tokens = behind_of-cons token tokens in
      let u : is_unknown names counts (sign_of text token) (signs_of text tokens) ≡ true = ap (λ rest. is_unknown names counts (sign_of text token) (signs_of text rest)) (sym s) ∙ e in
      ap (λ b. cond b (Some token.start) (first_unknown names counts (signs_of text tokens))) (sym u)

pub naming_from-none : (text : List ℕ) (names : Naming) (tokens : List Token) → length tokens < 1 → naming_from names (signs_of text tokens) ≡ names
unfolding naming_from
naming_from-none text names [] h = refl
naming_from-none text names (token ∷ tokens) h = absurd (omega arith)

pub first_unknown-none : (text : List ℕ) (names : Naming) (counts : Counts) (tokens : List Token) → length tokens < 1 → first_unknown names counts (signs_of text tokens) ≡ None
unfolding first_unknown
first_unknown-none text names counts [] h = refl
first_unknown-none text names counts (token ∷ tokens) h = absurd (omega arith)

-- ---- the numbers of components

counted : (values blocks : List (List ℕ)) (counts : List ℕ) (n : ℕ)
    → unwrap_or (slice_get counts n) 1 ≡ count_of (record { values = values; counts = counts; blocks = blocks }) (record { 0 = n })
counted values blocks [] n = refl
counted values blocks (count ∷ counts) zero = refl
counted values blocks (count ∷ counts) (suc n) = counted values blocks counts n

pub unwrap_or-count_of : (names : Naming) (value : ValueId) → unwrap_or (slice_get names.counts value.0) 1 ≡ count_of names value
unwrap_or-count_of names value = counted names.values names.blocks names.counts value.0
