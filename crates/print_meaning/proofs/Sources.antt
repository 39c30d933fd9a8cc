-- The sources of a phi of a renumbered shader name each predecessor once, and are defined along its edge, where the sources of the phi did.
use Rattle.std.specs.Prelude.{◌≡◌, refl, ℕ, ◌+◌, Bool, true, false, not, ◌||◌, ◌&&◌, cond, nat_eq, List, [], ◌∷◌, ◌++◌, map, count_by, Option, Some, None}
use Rattle.std.specs.List.{AllByRecursion, list_all, list_any}
use Rattle.std.specs.List.Sorted.{IsPermutation}
use Rattle.std.specs.Option.{option_map, option_to_list}
use Rattle.std.proofs.Common.{sym, ◌∙◌, ap}
use Rattle.std.proofs.lemmas.Bool.{and_from, and_parts}
use Rattle.std.proofs.lemmas.List.{map-append}
use Rattle.std.proofs.lemmas.List.Folds.{fold-map, list_all-map}
use Rattle.std.proofs.lemmas.List.Sorted.{IsPermutation-map, sum_by-IsPermutation}
use Rattle.std.proofs.lemmas.Simd.{map-map}
use Rattle.nir_ir.specs.declared.ids.BlockId.{BlockId}
use Rattle.nir_ir.specs.declared.node.Phi.{Phi}
use Rattle.nir_ir.specs.declared.node.PhiSource.{PhiSource}
use Rattle.nir_print.specs.BlockGroups.{all_permuted, in_block_order-permutation}
use Rattle.list_laws.specs.AllLaws.{all_append}
use Rattle.nir_print.specs.Naming.{in_block_order}
use Rattle.nir_print.specs.Renumber.{Numbers, new_block, new_phi, new_phi_source}
use Rattle.nir_ir.specs.Definitions.{is_from}
use Rattle.nir_validate.specs.Edges.{Edge}
use Rattle.nir_validate.specs.Fitting.{each, each_holds}
use Rattle.nir_validate.specs.Rules.{is_defined_along, named, names_each_once, predecessors}
use Rattle.nir_validate.specs.Walk.{is_empty}
use Rattle.print_meaning.proofs.Apart.{IsApart, apart_first}
use Rattle.print_meaning.proofs.Walk.{EdgeRenamed, EdgesRenamed, block_renaming}

-- ---- what is named under a renaming that keeps the blocks apart

module _ (rename : ℕ → ℕ) where
  count-renamed : (n : ℕ) → IsApart rename n → (names : List ℕ) → count_by (nat_eq (rename n)) (map rename names) ≡ count_by (nat_eq n) names
  count-renamed n apart names =
      fold-map (λ count name. count + cond (nat_eq (rename n) name) 1 0) rename 0 names ∙ (λ i. count_by (λ name. apart_first rename n name apart i) names)

  any-renamed : (name : ℕ) (blocks : List ℕ) → AllByRecursion (IsApart rename) blocks → list_any (nat_eq (rename name)) (map rename blocks) ≡ list_any (nat_eq name) blocks
  any-renamed name [] apart = refl
  any-renamed name (block ∷ blocks) apart = λ i. apart.0 name i || any-renamed name blocks apart.1 i

  is_empty-map : (blocks : List ℕ) → is_empty (map rename blocks) ≡ is_empty blocks
  is_empty-map [] = refl
  is_empty-map (block ∷ blocks) = refl

  -- names in another order count as often
  once-renamed : (blocks names others : List ℕ) → AllByRecursion (IsApart rename) blocks → IsPermutation names others
      → list_all (λ block. nat_eq (count_by (nat_eq block) (map rename others)) 1) (map rename blocks) ≡ list_all (λ block. nat_eq (count_by (nat_eq block) names) 1) blocks
  once-renamed [] names others apart order = refl
  once-renamed (block ∷ blocks) names others apart order =
      let count : count_by (nat_eq (rename block)) (map rename others) ≡ count_by (nat_eq block) names =
      count-renamed block apart.0 others ∙ sum_by-IsPermutation (λ name. cond (nat_eq block name) 1 0) names others order in
      λ i. nat_eq (count i) 1 && once-renamed blocks names others apart.1 order i

  some-renamed : (blocks names others : List ℕ) → AllByRecursion (IsApart rename) blocks → IsPermutation names others
      → list_all (λ name. list_any (nat_eq name) blocks) names ≡ true → list_all (λ name. list_any (nat_eq name) (map rename blocks)) (map rename others) ≡ true
  some-renamed blocks names others apart order h =
      let is_some : ℕ → Type 0 = λ name. list_any (nat_eq name) blocks ≡ true in
      list_all-map (λ name. list_any (nat_eq name) (map rename blocks)) rename others
      ∙ each_holds (λ name. list_any (nat_eq (rename name)) (map rename blocks)) is_some (λ name is. any-renamed name blocks apart ∙ is) others
      (all_permuted is_some names others order (each (λ name. list_any (nat_eq name) blocks) is_some (λ name is. is) names h))

  pub names-renamed : (blocks names others : List ℕ) → AllByRecursion (IsApart rename) blocks → IsPermutation names others
      → names_each_once blocks names ≡ true → names_each_once (map rename blocks) (map rename others) ≡ true
  names-renamed blocks names others apart order h =
      let some : Bool = not (is_empty blocks) in
      let once : Bool = list_all (λ block. nat_eq (count_by (nat_eq block) names) 1) blocks in
      let last = and_parts (some && once) (list_all (λ name. list_any (nat_eq name) blocks) names) h in
      let first = and_parts some once last.0 in
      let new_some : Bool = not (is_empty (map rename blocks)) in
      let new_once : Bool = list_all (λ block. nat_eq (count_by (nat_eq block) (map rename others)) 1) (map rename blocks) in
      and_from (new_some && new_once) (list_all (λ name. list_any (nat_eq name) (map rename blocks)) (map rename others))
      (and_from new_some new_once (ap not (is_empty-map blocks) ∙ first.0) (once-renamed blocks names others apart order ∙ first.1))
      (some-renamed blocks names others apart order last.1)

-- ---- the predecessors of a block

module _ (numbers : Numbers) where
  from-renamed : (old new : Edge) → EdgeRenamed numbers old new
      → map (λ id. id.0) (option_to_list new.from) ≡ map (block_renaming numbers) (map (λ id. id.0) (option_to_list old.from))
  from-renamed old new h = ap (λ from. map (λ id. id.0) (option_to_list from)) h.from ∙ by old.from where
    by : (from : Option BlockId) → map (λ id. id.0) (option_to_list (option_map (new_block numbers) from)) ≡ map (block_renaming numbers) (map (λ id. id.0) (option_to_list from))
    by None = refl
    by (Some id) = refl

  predecessors-renamed : (old new : List Edge) → EdgesRenamed numbers old new → predecessors new ≡ map (block_renaming numbers) (predecessors old)
  predecessors-renamed [] [] h = refl
  predecessors-renamed [] (edge ∷ new) h = absurd h
  predecessors-renamed (edge ∷ old) [] h = absurd h
  predecessors-renamed (edge ∷ old) (other ∷ new) h =
      (λ i. from-renamed edge other h.0 i ++ predecessors-renamed old new h.1 i)
      ∙ sym (map-append (block_renaming numbers) (map (λ id. id.0) (option_to_list edge.from)) (predecessors old))

  predecessors-apart : (old new : List Edge) → EdgesRenamed numbers old new → AllByRecursion (IsApart (block_renaming numbers)) (predecessors old)
  predecessors-apart [] [] h = tt
  predecessors-apart [] (edge ∷ new) h = absurd h
  predecessors-apart (edge ∷ old) [] h = absurd h
  predecessors-apart (edge ∷ old) (other ∷ new) h =
      all_append (IsApart (block_renaming numbers)) (map (λ id. id.0) (option_to_list edge.from)) (predecessors old) h.0.apart (predecessors-apart old new h.1)

  named-renamed : (phi : Phi) → named (new_phi numbers phi) ≡ map (block_renaming numbers) (map (λ source. source.from.0) (in_block_order numbers.naming phi.sources))
  named-renamed phi =
      let sources : List PhiSource = in_block_order numbers.naming phi.sources in
      map-map (λ (source : PhiSource). source.from.0) (new_phi_source numbers) sources
      ∙ sym (map-map (block_renaming numbers) (λ (source : PhiSource). source.from.0) sources)

  -- the sources name the predecessors as they did
  pub sources_match-renamed : (phi : Phi) (old new : List Edge) → EdgesRenamed numbers old new
      → names_each_once (predecessors old) (named phi) ≡ true → names_each_once (predecessors new) (named (new_phi numbers phi)) ≡ true
  sources_match-renamed phi old new h is =
      let sources : List PhiSource = in_block_order numbers.naming phi.sources in
      let names : List ℕ = map (λ source. source.from.0) sources in
      (λ i. names_each_once (predecessors-renamed old new h i) (named-renamed phi i))
      ∙ names-renamed (block_renaming numbers) (predecessors old) (named phi) names (predecessors-apart old new h)
      (IsPermutation-map (λ (source : PhiSource). source.from.0) phi.sources sources (in_block_order-permutation numbers.naming phi.sources)) is

  -- ---- sources along edges

  is_from-renamed : (source : PhiSource) (old new : Edge) → EdgeRenamed numbers old new → is_from new.from (new_phi_source numbers source) ≡ is_from old.from source
  is_from-renamed source old new h =
      ap (λ from. list_any (λ id. nat_eq id.0 (new_block numbers source.from).0) (option_to_list from)) h.from ∙ by old.from h.apart
    where
      by : (from : Option BlockId) → AllByRecursion (IsApart (block_renaming numbers)) (map (λ id. id.0) (option_to_list from))
          → list_any (λ id. nat_eq id.0 (new_block numbers source.from).0) (option_to_list (option_map (new_block numbers) from)) ≡ list_any (λ id. nat_eq id.0 source.from.0) (option_to_list from)
      by None apart = refl
      by (Some id) apart = ap (λ b. b || false) (apart_first (block_renaming numbers) id.0 source.from.0 apart.0)

  along-renamed : (source : PhiSource) (old new : List Edge) → EdgesRenamed numbers old new → is_defined_along new (new_phi_source numbers source) ≡ is_defined_along old source
  along-renamed source [] [] h = refl
  along-renamed source [] (edge ∷ new) h = absurd h
  along-renamed source (edge ∷ old) [] h = absurd h
  along-renamed source (edge ∷ old) (other ∷ new) h =
      λ i. (not (is_from-renamed source edge other h.0 i) || h.0.set source.value.0 i) && along-renamed source old new h.1 i

  -- the sources are defined along their edges as they were
  pub sources_defined-renamed : (phi : Phi) (old new : List Edge) → EdgesRenamed numbers old new
      → list_all (is_defined_along old) phi.sources ≡ true → list_all (is_defined_along new) (new_phi numbers phi).sources ≡ true
  sources_defined-renamed phi old new h is =
      let sources : List PhiSource = in_block_order numbers.naming phi.sources in
      let is_defined : PhiSource → Type 0 = λ source. is_defined_along old source ≡ true in
      list_all-map (is_defined_along new) (new_phi_source numbers) sources
      ∙ each_holds (λ source. is_defined_along new (new_phi_source numbers source)) is_defined (λ source along. along-renamed source old new h ∙ along) sources
      (all_permuted is_defined phi.sources sources (in_block_order-permutation numbers.naming phi.sources) (each (is_defined_along old) is_defined (λ source along. along) phi.sources is))
