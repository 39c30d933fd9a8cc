-- The names that a text defines, each once, in the order of their definitions: a name directly before `=` defines a value, and a word directly behind `block` a block.
use Rattle.std.specs.Prelude.{ℕ, suc, Bool, false, true, not, ◌||◌, ◌&&◌, List, [], ◌∷◌, ◌++◌, drop, Option, Some, None, is_some, nat_lt, codes, if◌then◌else◌}
use Rattle.std.specs.Option.{option_map, option_map_or, option_and_then}
use Rattle.std.specs.Str.{bytes_eq}
use Rattle.nir_text.specs.declared.counts.Counts.{Counts}
use Rattle.nir_text.specs.Signs.{Sign, word_of, name_of, is_mark, is_word, first_of}
use Rattle.nir_text.specs.Kinds.{kind_named}

-- the names of the values, with the number of components of each, and the words of the blocks
pub record Naming : Type 0 where
  pub values : List (List ℕ)
  pub counts : List ℕ
  pub blocks : List (List ℕ)

abbrev pub no_names : Naming
no_names = record { values = []; counts = []; blocks = [] }

-- where a name stands among others
abbrev pub place_of : List ℕ → List (List ℕ) → Option ℕ
place_of name [] = None
place_of name (other ∷ others) = if bytes_eq other name then Some 0 else option_map suc (place_of name others)

-- the place is one of the first so many
abbrev pub is_among_first : ℕ → Option ℕ → Bool
is_among_first count None = false
is_among_first count (Some place) = nat_lt place count

-- the number of components of the kind that stands behind `=` and an opcode; 1 where none does
abbrev pub count_behind : List Sign → ℕ
count_behind behind = option_map_or (λ kind. kind.count) (option_and_then kind_named (word_of (first_of (drop 2 behind)))) 1

abbrev pub with_value : List ℕ → ℕ → Naming → Naming
with_value name count names =
    if is_some (place_of name names.values) then names
    else record names { values = names.values ++ name ∷ []; counts = names.counts ++ count ∷ [] }

abbrev pub with_block : List ℕ → Naming → Naming
with_block word names =
    if is_some (place_of word names.blocks) then names
    else record names { blocks = names.blocks ++ word ∷ [] }

-- what a name defines, before what stands behind it
abbrev pub value_noted : Option (List ℕ) → List Sign → Naming → Naming
value_noted None behind names = names
value_noted (Some name) behind names = if is_mark 61 (first_of behind) then with_value name (count_behind behind) names else names

-- what the word `block` defines, before a word
abbrev pub block_noted : Bool → Option (List ℕ) → Naming → Naming
block_noted false word names = names
block_noted true None names = names
block_noted true (Some word) names = with_block word names

unfoldable pub noted : Sign → List Sign → Naming → Naming
noted sign behind names = block_noted (is_word (codes "block") sign) (word_of (first_of behind)) (value_noted (name_of sign) behind names)

unfoldable pub naming_from : Naming → List Sign → Naming
naming_from names [] = names
naming_from names (sign ∷ behind) = naming_from (noted sign behind names) behind

-- all names of a text
abbrev pub naming_of : List Sign → Naming
naming_of signs = naming_from no_names signs

-- A name is used or defined wherever it stands; a word directly before `:` names a block.
abbrev pub is_unknown_name : Naming → Counts → Option (List ℕ) → Bool
is_unknown_name names counts None = false
is_unknown_name names counts (Some name) = not (is_among_first counts.values (place_of name names.values))

abbrev pub is_unknown_block : Naming → Counts → Option (List ℕ) → Bool
is_unknown_block names counts None = false
is_unknown_block names counts (Some word) = not (is_among_first counts.blocks (place_of word names.blocks))

abbrev pub is_unknown : Naming → Counts → Sign → List Sign → Bool
is_unknown names counts sign behind =
    is_unknown_name names counts (name_of sign) || (is_mark 58 (first_of behind) && is_unknown_block names counts (word_of sign))

-- the place of the first name or block word that the text, with so many definitions, does not define
unfoldable pub first_unknown : Naming → Counts → List Sign → Option ℕ
first_unknown names counts [] = None
first_unknown names counts (sign ∷ behind) = if is_unknown names counts sign behind then Some sign.place else first_unknown names counts behind
