-- What a scan finds: as many numbers of components as names, and no name twice.
use Rattle.std.proofs.Common.{◌≡◌, ℕ, suc, Bool, true, false, cond, List, [], ◌∷◌, ◌++◌, length, Option, Some, None, is_some, codes, refl, arith, length-append, option_map}
use Rattle.std.specs.List.{AllByRecursion, IsDistinct}
use Rattle.std.specs.Str.{bytes_eq}
use Rattle.std.proofs.lemmas.Bool.{cond_both}
use Rattle.nir_text.specs.Signs.{Sign, word_of, name_of, is_mark, is_word, first_of}
use Rattle.nir_text.specs.Naming.{Naming, no_names, place_of, count_behind, with_value, value_noted, block_noted, noted, naming_from, naming_of}
use Rattle.nir_spelling.proofs.Grows.{one_value, one_block}

-- a name that is none of others
not_first : (b : Bool) (o : Option ℕ) → is_some (cond b (Some 0) (option_map suc o)) ≡ false → (b ≡ false) × (is_some o ≡ false)
not_first true o e = absurd cc
not_first false None e = (refl, refl)
not_first false (Some i) e = absurd cc

differs_last : (other name : List ℕ) (names : List (List ℕ)) → AllByRecursion (λ n. bytes_eq other n ≡ false) names → bytes_eq other name ≡ false → AllByRecursion (λ n. bytes_eq other n ≡ false) (names ++ name ∷ [])
differs_last other name [] all e = (e, tt)
differs_last other name (n ∷ names) all e = (all.0, differs_last other name names all.1 e)

distinct_last : (name : List ℕ) (names : List (List ℕ)) → IsDistinct bytes_eq names → is_some (place_of name names) ≡ false → IsDistinct bytes_eq (names ++ name ∷ [])
unfolding IsDistinct
distinct_last name [] distinct e = (tt, tt)
distinct_last name (other ∷ names) distinct e =
    let parts = not_first (bytes_eq other name) (place_of name names) e in
    (differs_last other name names distinct.0 parts.0, distinct_last name names distinct.1 parts.1)

pub record IsScanned (names : Naming) : Type 0 where
  pub level : length names.counts ≡ length names.values
  pub distinct_names : IsDistinct bytes_eq names.values
  pub distinct_words : IsDistinct bytes_eq names.blocks

value_scanned : (acc : Naming) (name : List ℕ) (count : ℕ) → IsScanned acc → is_some (place_of name acc.values) ≡ false → IsScanned (one_value acc name count)
value_scanned acc name count is fresh = record {
  level = omega (arith, is.level, length-append acc.counts (count ∷ []), length-append acc.values (name ∷ []));
  distinct_names = distinct_last name acc.values is.distinct_names fresh;
  distinct_words = is.distinct_words;
}

noted_value : (acc : Naming) (name : Option (List ℕ)) (behind : List Sign) → IsScanned acc → IsScanned (value_noted name behind acc)
noted_value acc None behind is = is
noted_value acc (Some name) behind is =
    cond_both (is_mark 61 (first_of behind)) (with_value name (count_behind behind) acc) acc IsScanned
    (λ _. cond_both (is_some (place_of name acc.values)) acc (one_value acc name (count_behind behind)) IsScanned (λ _. is) (λ fresh. value_scanned acc name (count_behind behind) is fresh))
    (λ _. is)

noted_block : (acc : Naming) (is_block : Bool) (word : Option (List ℕ)) → IsScanned acc → IsScanned (block_noted is_block word acc)
noted_block acc false word is = is
noted_block acc true None is = is
noted_block acc true (Some word) is =
    cond_both (is_some (place_of word acc.blocks)) acc (one_block acc word) IsScanned (λ _. is)
    (λ fresh. record { level = is.level; distinct_names = is.distinct_names; distinct_words = distinct_last word acc.blocks is.distinct_words fresh })

scanned_from : (acc : Naming) (signs : List Sign) → IsScanned acc → IsScanned (naming_from acc signs)
unfolding naming_from noted
scanned_from acc [] is = is
scanned_from acc (sign ∷ behind) is =
    let value = value_noted (name_of sign) behind acc in
    scanned_from (block_noted (is_word (codes "block") sign) (word_of (first_of behind)) value) behind
    (noted_block value (is_word (codes "block") sign) (word_of (first_of behind)) (noted_value acc (name_of sign) behind is))

pub scanned : (signs : List Sign) → IsScanned (naming_of signs)
unfolding IsDistinct
scanned signs = scanned_from no_names signs (record { level = refl; distinct_names = tt; distinct_words = tt })
