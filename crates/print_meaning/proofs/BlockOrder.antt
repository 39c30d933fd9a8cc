-- The sources of a phi in block order: the first one of a block is the first one of that block in any order.
use Rattle.std.specs.Prelude.{◌≡◌, refl, ℕ, zero, suc, ◌+◌, ◌<◌, ◌≤◌, Bool, true, false, cond, nat_eq, ◌||◌, List, [], ◌∷◌, map, length, filter, Option, Some, None}
use Rattle.std.specs.List.{AllByRecursion, find}
use Rattle.std.specs.Option.{option_map, option_or}
use Rattle.std.proofs.Common.{sym, ◌∙◌, ap, subst, arith}
use Rattle.std.proofs.lemmas.Bool.{cond-false, cond-true, eq-eqb, eqb-false, eqb-true, ne_eqb}
use Rattle.std.proofs.lemmas.List.Folds.{find-append}
use Rattle.std.proofs.lemmas.Option.{none-some, same_Some}
use Rattle.nir_ir.specs.declared.ids.BlockId.{BlockId}
use Rattle.nir_ir.specs.declared.node.PhiSource.{PhiSource}
use Rattle.nir_ir.specs.Shaped.{IsOneOf}
use Rattle.nir_mean.specs.Renamed.{IsNamed}
use Rattle.nir_ir.specs.Definitions.{is_from}
use Rattle.nir_print.specs.BlockGroups.{groups}
use Rattle.nir_print.specs.Naming.{block_place, in_block_order, place}
use Rattle.nir_print.specs.Renumber.{Numbers, new_block, new_phi_source}
use Rattle.list_laws.specs.AllLaws.{all_each}
use Rattle.print_meaning.proofs.Places.{find_renamed, place-below, place-same}

-- ---- what is found

pub found_holds : {A : Type 0} (P : A → Type 0) (test : A → Bool) (list : List A) (a : A) → AllByRecursion P list → find test list ≡ Some a → P a
found_holds P test [] a all found = absurd (none-some a found)
found_holds P test (first ∷ list) a all found = by (test first) refl (found_holds P test list a all.1) where
  by : (b : Bool) → test first ≡ b → (find test list ≡ Some a → P a) → P a
  by true e rest = subst P (same_Some first a (sym (cond-true (test first) (Some first) (find test list) e) ∙ found)) all.0
  by false e rest = rest (sym (cond-false (test first) (Some first) (find test list) e) ∙ found)

find-same_test : {A : Type 0} (first second : A → Bool) (list : List A) → AllByRecursion (λ a. first a ≡ second a) list → find first list ≡ find second list
find-same_test first second [] all = refl
find-same_test first second (a ∷ list) all = λ i. cond (all.0 i) (Some a) (find-same_test first second list all.1 i)

all_of : {A : Type 0} (P : A → Type 0) → ((a : A) → P a) → (list : List A) → AllByRecursion P list
all_of P h [] = tt
all_of P h (a ∷ list) = (h a, all_of P h list)

-- ---- the items of each number in turn

abbrev has : {A : Type 0} → (A → ℕ) → ℕ → A → Bool
has key k a = nat_eq (key a) k

-- among the items of one number, another number is not found
find-other : {A : Type 0} (key : A → ℕ) (k other : ℕ) (list : List A) → nat_eq other k ≡ false → find (has key k) (filter (has key other) list) ≡ None
find-other key k other [] apart = refl
find-other {A} key k other (a ∷ list) apart = by (has key other a) refl (find-other key k other list apart) where
  by : (b : Bool) → has key other a ≡ b → find (has key k) (filter (has key other) list) ≡ None
      → find (has key k) (cond b (a ∷ filter (has key other) list) (filter (has key other) list)) ≡ None
  by true e rest =
      ap (λ n. cond (nat_eq n k) (Some a) (find (has key k) (filter (has key other) list))) (eqb-true (key a) other e)
      ∙ ap (λ b. cond b (Some a) (find (has key k) (filter (has key other) list))) apart
      ∙ rest
  by false e rest = rest

-- and the number itself is found as in the whole list
find-own : {A : Type 0} (key : A → ℕ) (k : ℕ) (list : List A) → find (has key k) (filter (has key k) list) ≡ find (has key k) list
find-own key k [] = refl
find-own key k (a ∷ list) = by (has key k a) refl (find-own key k list) where
  by : (b : Bool) → has key k a ≡ b → find (has key k) (filter (has key k) list) ≡ find (has key k) list
      → find (has key k) (cond b (a ∷ filter (has key k) list) (filter (has key k) list)) ≡ cond b (Some a) (find (has key k) list)
  by true e rest = ap (λ b. cond b (Some a) (find (has key k) (filter (has key k) list))) e
  by false e rest = rest

-- no lower number is found
find-past : {A : Type 0} (key : A → ℕ) (k : ℕ) (list : List A) (from n : ℕ) → k < from → find (has key k) (groups key list from n) ≡ None
find-past key k list from zero past = refl
find-past key k list from (suc n) past =
    let apart : nat_eq from k ≡ false = ne_eqb from k (λ same. omega arith) in
    find-append (has key k) (filter (has key from) list) (groups key list (from + 1) n)
    ∙ (λ i. option_or (find-other key k from list apart i) (find-past key k list (from + 1) n (omega arith) i))

or_none : {A : Type 0} (found : Option A) → option_or found None ≡ found
or_none None = refl
or_none (Some a) = refl

find-groups : {A : Type 0} (key : A → ℕ) (k : ℕ) (list : List A) (from n : ℕ) → from ≤ k → k < from + n → find (has key k) (groups key list from n) ≡ find (has key k) list
find-groups key k list from zero low high = absurd (omega arith)
find-groups {A} key k list from (suc n) low high =
    find-append (has key k) (filter (has key from) list) (groups key list (from + 1) n)
    ∙ by (nat_eq from k) refl (find-groups key k list (from + 1) n)
  where
    by : (b : Bool) → nat_eq from k ≡ b → (from + 1 ≤ k → k < from + 1 + n → find (has key k) (groups key list (from + 1) n) ≡ find (has key k) list)
        → option_or (find (has key k) (filter (has key from) list)) (find (has key k) (groups key list (from + 1) n)) ≡ find (has key k) list
    by true e rest =
        let same : from ≡ k = eqb-true from k e in
        (λ i. option_or
        ((ap (λ own. find (has key k) (filter (has key own) list)) same ∙ find-own key k list) i)
        (find-past key k list (from + 1) n (omega arith) i))
        ∙ or_none (find (has key k) list)
    by false e rest =
        let other : from ≡ k → ⊥ = eqb-false from k e in
        (λ i. option_or (find-other key k from list e i) (rest (omega arith) (omega arith) i))

-- ---- the source that a phi takes

or_false : (b : Bool) → (b || false) ≡ b
or_false true = refl
or_false false = refl

pub nat_eq-swap : (m n : ℕ) → nat_eq m n ≡ nat_eq n m
nat_eq-swap m n = by (nat_eq n m) refl where
  by : (b : Bool) → nat_eq n m ≡ b → nat_eq m n ≡ b
  by true e = eq-eqb m n (sym (eqb-true n m e))
  by false e = ne_eqb m n (λ same. eqb-false n m e (sym same))

-- from the entry no source is taken
none-comes : (list : List PhiSource) → find (is_from None) list ≡ None
none-comes [] = refl
none-comes (source ∷ list) = none-comes list

-- the source that is taken is the same one, under other numbers
pub taken-renumbered : (numbers : Numbers) (from : Option BlockId) (sources : List PhiSource) → IsNamed numbers.naming.blocks from
    → AllByRecursion (λ source. IsOneOf numbers.naming.blocks source.from.0) sources
    → find (is_from (option_map (new_block numbers) from)) (map (new_phi_source numbers) (in_block_order numbers.naming sources))
    ≡ option_map (new_phi_source numbers) (find (is_from from) sources)
taken-renumbered numbers None sources named all =
    none-comes (map (new_phi_source numbers) (in_block_order numbers.naming sources)) ∙ ap (option_map (new_phi_source numbers)) (sym (none-comes sources))
taken-renumbered numbers (Some id) sources named all =
    find_renamed (new_phi_source numbers) (has key (key_of id)) (is_from (Some (new_block numbers id))) (in_block_order numbers.naming sources)
    (all_of (λ source. is_from (Some (new_block numbers id)) (new_phi_source numbers source) ≡ has key (key_of id) source)
    (λ source. or_false (nat_eq (key_of id) (key source)) ∙ nat_eq-swap (key_of id) (key source))
    (in_block_order numbers.naming sources))
    ∙ ap (option_map (new_phi_source numbers))
    (find-groups key (key_of id) sources 0 (length numbers.naming.blocks + 1) (omega arith) within
    ∙ find-same_test (has key (key_of id)) (is_from (Some id)) sources
    (all_each (λ source. IsOneOf numbers.naming.blocks source.from.0) (λ source. has key (key_of id) source ≡ is_from (Some id) source) same sources all))
  where
    key_of : BlockId → ℕ
    key_of block = block_place numbers.naming block

    key : PhiSource → ℕ
    key source = block_place numbers.naming source.from

    within : key_of id < 0 + (length numbers.naming.blocks + 1)
    within = let below : place numbers.naming.blocks id.0 < length numbers.naming.blocks = place-below numbers.naming.blocks id.0 named in omega arith

    same : (source : PhiSource) → IsOneOf numbers.naming.blocks source.from.0 → has key (key_of id) source ≡ is_from (Some id) source
    same source is =
        place-same numbers.naming.blocks source.from.0 id.0 is named
        ∙ nat_eq-swap source.from.0 id.0
        ∙ sym (or_false (nat_eq id.0 source.from.0))
