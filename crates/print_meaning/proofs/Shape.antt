-- A renumbered shader is shaped: its numbers are those from 0 on, so each that is used is there, and its parts keep their sizes.
use Rattle.std.specs.Prelude.{◌≡◌, refl, ℕ, suc, zero, ◌+◌, ◌^◌, ◌<◌, ◌≤◌, false, nat_eq, List, [], ◌∷◌, length, map}
use Rattle.std.specs.List.{AllByRecursion, IsDistinct, flat_map, list_any, range_with_len}
use Rattle.std.proofs.Common.{sym, ◌∙◌, subst, arith, inl, inr}
use Rattle.std.proofs.lemmas.Bool.{cases_lt, eq-eqb, ne_eqb, or_left, or_right}
use Rattle.std.proofs.lemmas.List.{length-map}
use Rattle.std.proofs.lemmas.List.Sorted.{length_permutation}
use Rattle.nir_ir.specs.declared.ids.ValueId.{ValueId}
use Rattle.nir_ir.specs.declared.instr.Instr.{Instr}
use Rattle.nir_ir.specs.declared.instr.Instr.TheVariants.{Alu, Const, Undef, Input, Output, LoadBuf, StoreBuf}
use Rattle.nir_ir.specs.declared.instr.Src.{Src}
use Rattle.nir_ir.specs.declared.node.PhiSource.{PhiSource}
use Rattle.nir_ir.specs.Items.{Item, BlockHead, PhiItem, InstrItem, JumpItem, IfHead, LoopHead, blocks_defined, blocks_named, blocks_of, defines, effects_defined, effects_of, ifs_defined, ifs_of, items, loops_defined, loops_of, names_blocks, reads, uses, values_defined, values_used}
use Rattle.nir_ir.specs.Nodes.{Nodes}
use Rattle.nir_ir.specs.Shaped.{IsOneOf, IsShapedInstr, IsShapedItem, IsSwizzle}
use Rattle.nir_print.specs.BlockGroups.{all_permuted, in_block_order-permutation}
use Rattle.list_laws.specs.AllLaws.{all_append, all_back, all_front, all_of_map}
use Rattle.nir_print.specs.Naming.{in_block_order, place}
use Rattle.nir_print.specs.Renumber.{Numbers, new_instr, new_nodes, new_phi_source, new_src, new_value, numbers_of}
use Rattle.nir_print.specs.RenumberedItems.{blocks_renamed, effects_renamed, given-new_nodes, ifs_renamed, items-new_nodes, loops_renamed, new_item, places_in_order, values_renamed}
use Rattle.list_laws.specs.AllLaws.{all_each}
use Rattle.print_meaning.proofs.Places.{place-below}
use Rattle.print_meaning.proofs.InstrReads.{reads-new_instr}
use Rattle.print_meaning.specs.RenumberedLaws.{RenumberedIsShaped}

-- ---- the numbers from some number on

range_apart : (a b n : ℕ) → a < b → AllByRecursion (λ k. nat_eq a k ≡ false) (range_with_len b n)
range_apart a b zero lt = tt
range_apart a b (suc n) lt = (ne_eqb a b (λ same. omega arith), range_apart a (b + 1) n (omega arith))

range_distinct : (a n : ℕ) → IsDistinct nat_eq (range_with_len a n)
unfolding IsDistinct
range_distinct a zero = tt
range_distinct a (suc n) = (range_apart a (a + 1) n (omega arith), range_distinct (a + 1) n)

range_below : (a n m : ℕ) → a + n ≤ m → AllByRecursion (λ k. k < m) (range_with_len a n)
range_below a zero m le = tt
range_below a (suc n) m le = (omega arith, range_below (a + 1) n m (omega arith))

one_of_range : (a n k : ℕ) → a ≤ k → k < a + n → IsOneOf (range_with_len a n) k
one_of_range a zero k low high = absurd (omega arith)
one_of_range a (suc n) k low high =
    let behind : List ℕ = range_with_len (a + 1) n in
    elim (cases_lt a k) [
      | inl above ↦ or_right (nat_eq k a) (list_any (nat_eq k) behind) (one_of_range (a + 1) n k (omega arith) (omega arith))
      | inr here ↦ or_left (nat_eq k a) (list_any (nat_eq k) behind) (eq-eqb k a (omega arith))
    ]

-- renumbered numbers are distinct, and are those below the count of the old ones
module _ (old new : List ℕ) (distinct : IsDistinct nat_eq old) (is : new ≡ map (place old) old) where
  in_order : new ≡ range_with_len 0 (length old)
  in_order = is ∙ places_in_order old distinct

  new_distinct : IsDistinct nat_eq new
  new_distinct = subst (IsDistinct nat_eq) (sym in_order) (range_distinct 0 (length old))

  new_below : AllByRecursion (λ k. k < length old) new
  new_below = subst (AllByRecursion (λ k. k < length old)) (sym in_order) (range_below 0 (length old) (length old) (omega arith))

  all_there : (list : List ℕ) → AllByRecursion (λ k. k < length old) list → AllByRecursion (IsOneOf new) list
  all_there list all =
      all_each (λ k. k < length old) (IsOneOf new)
      (λ k below. subst (λ numbers. IsOneOf numbers k) (sym in_order) (one_of_range 0 (length old) k (omega arith) (omega (arith, below))))
      list all

-- ---- what items give

module _ (numbers : Numbers) where
  -- what holds of what each item gives holds of what the renumbered items give
  all_renamed : (P Q : ℕ → Type 0) (gives : Item → List ℕ) → ((item : Item) → AllByRecursion P (gives item) → AllByRecursion Q (gives (new_item numbers item)))
      → (list : List Item) → AllByRecursion P (flat_map gives list) → AllByRecursion Q (flat_map gives (map (new_item numbers) list))
  all_renamed P Q gives h [] all = tt
  all_renamed P Q gives h (item ∷ list) all =
      all_append Q (gives (new_item numbers item)) (flat_map gives (map (new_item numbers) list))
      (h item (all_front P (gives item) (flat_map gives list) all))
      (all_renamed P Q gives h list (all_back P (gives item) (flat_map gives list) all))

  ids_below : (list : List ValueId) → AllByRecursion (IsOneOf numbers.naming.values) (map (λ id. id.0) list)
      → AllByRecursion (λ k. k < length numbers.naming.values) (map (λ id. id.0) (map (new_value numbers) list))
  ids_below [] all = tt
  ids_below (id ∷ list) all = (place-below numbers.naming.values id.0 all.0, ids_below list all.1)

  -- the values, or the blocks, of sources in block order
  each_source : {A : Type 0} (part : PhiSource → A) (number : A → ℕ) (list : List ℕ) → ((source : PhiSource) → number (part (new_phi_source numbers source)) ≡ place list (number (part source)))
      → (sources : List PhiSource) → AllByRecursion (λ source. IsOneOf list (number (part source))) sources
      → AllByRecursion (λ k. k < length list) (map number (map part (map (new_phi_source numbers) sources)))
  each_source part number list same [] all = tt
  each_source part number list same (source ∷ sources) all =
      (subst (λ k. k < length list) (sym (same source)) (place-below list (number (part source)) all.0), each_source part number list same sources all.1)

  sources_below : {A : Type 0} (part : PhiSource → A) (number : A → ℕ) (list : List ℕ) → ((source : PhiSource) → number (part (new_phi_source numbers source)) ≡ place list (number (part source)))
      → (sources : List PhiSource) → AllByRecursion (IsOneOf list) (map number (map part sources))
      → AllByRecursion (λ k. k < length list) (map number (map part (map (new_phi_source numbers) (in_block_order numbers.naming sources))))
  sources_below part number list same sources all =
      let is_one : PhiSource → Type 0 = λ source. IsOneOf list (number (part source)) in
      each_source part number list same (in_block_order numbers.naming sources)
      (all_permuted is_one sources (in_block_order numbers.naming sources) (in_block_order-permutation numbers.naming sources)
      (all_of_map part (λ a. IsOneOf list (number a)) sources (all_of_map number (IsOneOf list) (map part sources) all)))

  uses_below : (item : Item) → AllByRecursion (IsOneOf numbers.naming.values) (map (λ id. id.0) (uses item))
      → AllByRecursion (λ k. k < length numbers.naming.values) (map (λ id. id.0) (uses (new_item numbers item)))
  uses_below (BlockHead id) all = tt
  uses_below (PhiItem phi) all = sources_below (λ source. source.value) (λ id. id.0) numbers.naming.values (λ source. refl) phi.sources all
  uses_below (InstrItem instr) all =
      subst (λ list. AllByRecursion (λ k. k < length numbers.naming.values) (map (λ id. id.0) list)) (sym (reads-new_instr numbers instr)) (ids_below (reads instr) all)
  uses_below (JumpItem jump) all = tt
  uses_below (IfHead id condition) all = (place-below numbers.naming.values condition.0 all.0, tt)
  uses_below (LoopHead id) all = tt

  names_below : (item : Item) → AllByRecursion (IsOneOf numbers.naming.blocks) (map (λ id. id.0) (names_blocks item))
      → AllByRecursion (λ k. k < length numbers.naming.blocks) (map (λ id. id.0) (names_blocks (new_item numbers item)))
  names_below (BlockHead id) all = tt
  names_below (PhiItem phi) all = sources_below (λ source. source.from) (λ id. id.0) numbers.naming.blocks (λ source. refl) phi.sources all
  names_below (InstrItem instr) all = tt
  names_below (JumpItem jump) all = tt
  names_below (IfHead id condition) all = tt
  names_below (LoopHead id) all = tt

  -- ---- the sizes of parts

  swizzles_shaped : (srcs : List Src) → AllByRecursion (λ src. IsSwizzle src.swizzle) srcs → AllByRecursion (λ src. IsSwizzle src.swizzle) (map (new_src numbers) srcs)
  swizzles_shaped [] all = tt
  swizzles_shaped (src ∷ srcs) all = (all.0, swizzles_shaped srcs all.1)

  instr_shaped : (instr : Instr) → IsShapedInstr instr → IsShapedInstr (new_instr numbers instr)
  instr_shaped (Alu value op kind srcs) h = (h.0, length-map srcs (new_src numbers) ∙ h.1, swizzles_shaped srcs h.2)
  instr_shaped (Const value kind comps) h = h
  instr_shaped (Undef value kind) h = h
  instr_shaped (Input value kind slot) h = h
  instr_shaped (Output effect slot src) h = h
  instr_shaped (LoadBuf value kind buffer offset) h = h
  instr_shaped (StoreBuf effect buffer offset src) h = h

  item_shaped : (item : Item) → IsShapedItem item → IsShapedItem (new_item numbers item)
  item_shaped (BlockHead id) h = h
  item_shaped (PhiItem phi) h =
      let sources : List PhiSource = in_block_order numbers.naming phi.sources in
      let same = length-map sources (new_phi_source numbers) ∙ length_permutation phi.sources sources (in_block_order-permutation numbers.naming phi.sources) in
      (h.0, subst (λ n. n < 2 ^ 32) (sym same) h.1)
  item_shaped (InstrItem instr) h = instr_shaped instr h
  item_shaped (JumpItem jump) h = h
  item_shaped (IfHead id condition) h = h
  item_shaped (LoopHead id) h = h

  items_shaped : (list : List Item) → AllByRecursion IsShapedItem list → AllByRecursion IsShapedItem (map (new_item numbers) list)
  items_shaped [] all = tt
  items_shaped (item ∷ list) all = (item_shaped item all.0, items_shaped list all.1)

-- ---- the law

pub renumbered_is_shaped : RenumberedIsShaped
renumbered_is_shaped s shaped =
    let numbers : Numbers = numbers_of s.body in
    let old : List Item = items s.body in
    let new : Nodes = new_nodes numbers s.body in
    let values : values_defined new ≡ map (place (values_defined s.body)) (values_defined s.body) =
    given-new_nodes (λ item. map (λ id. id.0) (defines item)) (λ item. map (λ id. id.0) (defines item)) (place numbers.naming.values) numbers (values_renamed numbers) s.body in
    let blocks : blocks_defined new ≡ map (place (blocks_defined s.body)) (blocks_defined s.body) =
    given-new_nodes (λ item. map (λ id. id.0) (blocks_of item)) (λ item. map (λ id. id.0) (blocks_of item)) (place numbers.naming.blocks) numbers (blocks_renamed numbers) s.body in
    let effects = given-new_nodes (λ item. map (λ id. id.0) (effects_of item)) (λ item. map (λ id. id.0) (effects_of item)) (place numbers.effects) numbers (effects_renamed numbers) s.body in
    let ifs = given-new_nodes (λ item. map (λ id. id.0) (ifs_of item)) (λ item. map (λ id. id.0) (ifs_of item)) (place numbers.ifs) numbers (ifs_renamed numbers) s.body in
    let loops = given-new_nodes (λ item. map (λ id. id.0) (loops_of item)) (λ item. map (λ id. id.0) (loops_of item)) (place numbers.loops) numbers (loops_renamed numbers) s.body in
    let below_values : ℕ → Type 0 = λ k. k < length (values_defined s.body) in
    let below_blocks : ℕ → Type 0 = λ k. k < length (blocks_defined s.body) in
    let used : AllByRecursion below_values (values_used new) =
    subst (λ list. AllByRecursion below_values (flat_map (λ item. map (λ id. id.0) (uses item)) list)) (sym (items-new_nodes numbers s.body))
    (all_renamed numbers (IsOneOf (values_defined s.body)) below_values (λ item. map (λ id. id.0) (uses item)) (uses_below numbers) old shaped.uses) in
    let named : AllByRecursion below_blocks (blocks_named new) =
    subst (λ list. AllByRecursion below_blocks (flat_map (λ item. map (λ id. id.0) (names_blocks item)) list)) (sym (items-new_nodes numbers s.body))
    (all_renamed numbers (IsOneOf (blocks_defined s.body)) below_blocks (λ item. map (λ id. id.0) (names_blocks item)) (names_below numbers) old shaped.names) in
    record {
      values = new_distinct (values_defined s.body) (values_defined new) shaped.values values;
      blocks = new_distinct (blocks_defined s.body) (blocks_defined new) shaped.blocks blocks;
      effects = new_distinct (effects_defined s.body) (effects_defined new) shaped.effects effects;
      ifs = new_distinct (ifs_defined s.body) (ifs_defined new) shaped.ifs ifs;
      loops = new_distinct (loops_defined s.body) (loops_defined new) shaped.loops loops;
      below = new_below (values_defined s.body) (values_defined new) shaped.values values;
      uses = all_there (values_defined s.body) (values_defined new) shaped.values values (values_used new) used;
      names = all_there (blocks_defined s.body) (blocks_defined new) shaped.blocks blocks (blocks_named new) named;
      items = subst (AllByRecursion IsShapedItem) (sym (items-new_nodes numbers s.body)) (items_shaped numbers old shaped.items);
      inputs = shaped.inputs;
      outputs = shaped.outputs;
    }
