-- What the first round finds kept at each item of a shader it finds kept at each item of the renumbered one, and nodes stand in the same order.
use Rattle.std.specs.Prelude.{◌≡◌, refl, ℕ, suc, ◌+◌, Bool, true, false, ◌&&◌, nat_lt, List, [], ◌∷◌, ◌++◌, length, map}
use Rattle.std.specs.List.{AllByRecursion, list_all}
use Rattle.std.specs.Option.{option_map_or, option_to_list}
use Rattle.std.proofs.Common.{sym, ◌∙◌, ap}
use Rattle.std.proofs.lemmas.List.{length-map, map-append}
use Rattle.std.proofs.lemmas.List.Folds.{list_all-map}
use Rattle.std.proofs.lemmas.Simd.{map-map}
use Rattle.nir_ops.specs.declared.width.Width.TheVariants.{W1}
use Rattle.nir_ir.specs.declared.ids.ValueId.{ValueId}
use Rattle.nir_ir.specs.declared.instr.Instr.{Instr}
use Rattle.nir_ir.specs.declared.instr.Instr.TheVariants.{Alu, Const, Undef, Input, Output, LoadBuf, StoreBuf}
use Rattle.nir_ir.specs.declared.instr.Src.{Src}
use Rattle.nir_ir.specs.declared.kind.Kind.{Kind}
use Rattle.nir_ir.specs.declared.node.Block.{Block}
use Rattle.nir_ir.specs.declared.node.Phi.{Phi}
use Rattle.nir_ir.specs.declared.node.PhiSource.{PhiSource}
use Rattle.nir_ir.specs.Items.{Item, BlockHead, PhiItem, InstrItem, JumpItem, IfHead, LoopHead, block_items, items, reads, uses}
use Rattle.nir_ir.specs.Nodes.{Nodes, Nil, BlockThen, IfThen, LoopThen}
use Rattle.nir_ir.specs.Shader.{Shader}
use Rattle.nir_print.specs.BlockGroups.{all_permuted, in_block_order-permutation}
use Rattle.list_laws.specs.AllLaws.{all_both, all_of_map}
use Rattle.nir_print.specs.Naming.{in_block_order}
use Rattle.nir_print.specs.Renumber.{Numbers, new_block_node, new_instr, new_nodes, new_phi_source, new_src, new_value}
use Rattle.nir_print.specs.RenumberedItems.{items-new_block, items-new_nodes, new_item}
use Rattle.op_eval.specs.Calls.{sizes_fit}
use Rattle.nir_validate.specs.Fitting.{each, each_holds}
use Rattle.nir_validate.specs.Rules.{Kinds, Spot, all_misplaced, condition_kind, counts_fit, declares, has_kind, has_kind_that, instr_is_declared, instr_kinds_fit, instr_names_components, is_storable, kinds_fit, misplaced, misplaced_inside, names_components, offset_kind, same_kind, spots, width_in}
use Rattle.nir_validate.specs.TypedLaws.{SpotKept, spots_of}

-- ---- the order of nodes

module _ (numbers : Numbers) where
  length-block : (b : Block) → length (block_items (new_block_node numbers b)) ≡ length (block_items b)
  length-block b = ap length (items-new_block numbers b) ∙ length-map (block_items b) (new_item numbers)

  length-items : (nodes : Nodes) → length (items (new_nodes numbers nodes)) ≡ length (items nodes)
  length-items nodes = ap length (items-new_nodes numbers nodes) ∙ length-map (items nodes) (new_item numbers)

  misplaced-renamed : (wants_block : Bool) (last at : ℕ) (nodes : Nodes) → misplaced wants_block last at (new_nodes numbers nodes) ≡ misplaced wants_block last at nodes
  misplaced-renamed true last at Nil = refl
  misplaced-renamed false last at Nil = refl
  misplaced-renamed true last at (BlockThen b rest) =
      ap (λ n. misplaced false at (at + n) (new_nodes numbers rest)) (length-block b) ∙ misplaced-renamed false at (at + length (block_items b)) rest
  misplaced-renamed false last at (BlockThen b rest) = refl
  misplaced-renamed true last at (IfThen id condition first second rest) = refl
  misplaced-renamed false last at (IfThen id condition first second rest) =
      (λ i. misplaced true at (suc (at + length-items first i + length-items second i)) (new_nodes numbers rest))
      ∙ misplaced-renamed true at (suc (at + length (items first) + length (items second))) rest
  misplaced-renamed true last at (LoopThen id body rest) = refl
  misplaced-renamed false last at (LoopThen id body rest) =
      ap (λ n. misplaced true at (suc (at + n)) (new_nodes numbers rest)) (length-items body) ∙ misplaced-renamed true at (suc (at + length (items body))) rest

  inside-renamed : (at : ℕ) (nodes : Nodes) → misplaced_inside at (new_nodes numbers nodes) ≡ misplaced_inside at nodes
  inside-renamed at Nil = refl
  inside-renamed at (BlockThen b rest) =
      ap (λ n. misplaced_inside (at + n) (new_nodes numbers rest)) (length-block b) ∙ inside-renamed (at + length (block_items b)) rest
  inside-renamed at (IfThen id condition first second rest) =
      (λ i. option_to_list (misplaced true at (suc at) (new_nodes numbers first)) ++ misplaced_inside (suc at) (new_nodes numbers first)
      ++ option_to_list (misplaced true at (suc (at + length-items first i)) (new_nodes numbers second)) ++ misplaced_inside (suc (at + length-items first i)) (new_nodes numbers second)
      ++ misplaced_inside (suc (at + length-items first i + length-items second i)) (new_nodes numbers rest))
      ∙ (λ i. option_to_list (misplaced-renamed true at (suc at) first i) ++ inside-renamed (suc at) first i
      ++ option_to_list (misplaced-renamed true at (suc (at + length (items first))) second i) ++ inside-renamed (suc (at + length (items first))) second i
      ++ inside-renamed (suc (at + length (items first) + length (items second))) rest i)
  inside-renamed at (LoopThen id body rest) =
      ap (λ n. option_to_list (misplaced true at (suc at) (new_nodes numbers body)) ++ misplaced_inside (suc at) (new_nodes numbers body) ++ misplaced_inside (suc (at + n)) (new_nodes numbers rest)) (length-items body)
      ∙ (λ i. option_to_list (misplaced-renamed true at (suc at) body i) ++ inside-renamed (suc at) body i ++ inside-renamed (suc (at + length (items body))) rest i)

  pub all_misplaced-renamed : (body : Nodes) → all_misplaced (new_nodes numbers body) ≡ all_misplaced body
  all_misplaced-renamed body = λ i. option_to_list (misplaced-renamed true 0 0 body i) ++ inside-renamed 0 body i

-- ---- the items with whether a loop is around them

abbrev pub new_spot : Numbers → Spot → Spot
new_spot numbers spot = record { item = new_item numbers spot.item; in_loop = spot.in_loop }

module _ (numbers : Numbers) where
  spots_of-renamed : (in_loop : Bool) (list : List Item) → spots_of in_loop (map (new_item numbers) list) ≡ map (new_spot numbers) (spots_of in_loop list)
  spots_of-renamed in_loop [] = refl
  spots_of-renamed in_loop (item ∷ list) = ap (λ t. record { item = new_item numbers item; in_loop = in_loop } ∷ t) (spots_of-renamed in_loop list)

  pub spots-renamed : (in_loop : Bool) (nodes : Nodes) → spots in_loop (new_nodes numbers nodes) ≡ map (new_spot numbers) (spots in_loop nodes)
  spots-renamed in_loop Nil = refl
  spots-renamed in_loop (BlockThen b rest) =
      (λ i. (ap (spots_of in_loop) (items-new_block numbers b) ∙ spots_of-renamed in_loop (block_items b)) i ++ spots-renamed in_loop rest i)
      ∙ sym (map-append (new_spot numbers) (spots_of in_loop (block_items b)) (spots in_loop rest))
  spots-renamed in_loop (IfThen id condition first second rest) =
      ap (λ t. new_spot numbers (record { item = IfHead id condition; in_loop = in_loop }) ∷ t)
      ((λ i. spots-renamed in_loop first i ++ spots-renamed in_loop second i ++ spots-renamed in_loop rest i)
      ∙ ap (λ t. t ++ map (new_spot numbers) (spots in_loop rest)) (sym (map-append (new_spot numbers) (spots in_loop first) (spots in_loop second)))
      ∙ sym (map-append (new_spot numbers) (spots in_loop first ++ spots in_loop second) (spots in_loop rest)))
  spots-renamed in_loop (LoopThen id body rest) =
      ap (λ t. new_spot numbers (record { item = LoopHead id; in_loop = in_loop }) ∷ t)
      ((λ i. spots-renamed true body i ++ spots-renamed in_loop rest i) ∙ sym (map-append (new_spot numbers) (spots true body) (spots in_loop rest)))

unspotted : (in_loop : Bool) (list : List Item) → map (λ (spot : Spot). spot.item) (spots_of in_loop list) ≡ list
unspotted in_loop [] = refl
unspotted in_loop (item ∷ list) = ap (λ t. item ∷ t) (unspotted in_loop list)

pub items-spots : (in_loop : Bool) (nodes : Nodes) → map (λ (spot : Spot). spot.item) (spots in_loop nodes) ≡ items nodes
items-spots in_loop Nil = refl
items-spots in_loop (BlockThen b rest) =
    map-append (λ (spot : Spot). spot.item) (spots_of in_loop (block_items b)) (spots in_loop rest) ∙ (λ i. unspotted in_loop (block_items b) i ++ items-spots in_loop rest i)
items-spots in_loop (IfThen id condition first second rest) =
    ap (λ t. IfHead id condition ∷ t)
    (map-append (λ (spot : Spot). spot.item) (spots in_loop first ++ spots in_loop second) (spots in_loop rest)
    ∙ ap (λ t. t ++ map (λ (spot : Spot). spot.item) (spots in_loop rest)) (map-append (λ (spot : Spot). spot.item) (spots in_loop first) (spots in_loop second))
    ∙ (λ i. items-spots in_loop first i ++ items-spots in_loop second i ++ items-spots in_loop rest i))
items-spots in_loop (LoopThen id body rest) =
    ap (λ t. LoopHead id ∷ t) (map-append (λ (spot : Spot). spot.item) (spots true body) (spots in_loop rest) ∙ (λ i. items-spots true body i ++ items-spots in_loop rest i))

-- ---- the rules of single items

-- a value has its kind under its new number
abbrev pub SameKind : Numbers → Kinds → Kinds → ValueId → Type 0
SameKind numbers old new value = new (new_value numbers value) ≡ old value

module _ (numbers : Numbers) (s t : Shader) (inputs : t.inputs ≡ s.inputs) (outputs : t.outputs ≡ s.outputs) (buffers : t.buffers ≡ s.buffers) (old new : Kinds) where
  widths-renamed : (srcs : List Src) → AllByRecursion (SameKind numbers old new) (map (λ src. src.value) srcs)
      → map (λ src. width_in new src.value) (map (new_src numbers) srcs) ≡ map (λ src. width_in old src.value) srcs
  widths-renamed [] same = refl
  widths-renamed (src ∷ srcs) same = λ i. option_map_or (λ kind. kind.width) (same.0 i) W1 ∷ widths-renamed srcs same.1 i

  components-renamed : (srcs : List Src) → AllByRecursion (SameKind numbers old new) (map (λ src. src.value) srcs)
      → list_all (names_components new) (map (new_src numbers) srcs) ≡ list_all (names_components old) srcs
  components-renamed [] same = refl
  components-renamed (src ∷ srcs) same =
      λ i. list_all (λ entry. nat_lt entry (option_map_or (λ kind. kind.count) (same.0 i) 0)) src.swizzle && components-renamed srcs same.1 i

  has_kind-renamed : (value : ValueId) (test : Kind → Bool) → SameKind numbers old new value → has_kind_that new (new_value numbers value) test ≡ has_kind_that old value test
  has_kind-renamed value test same = ap (λ found. option_map_or test found false) same

  instr_kinds_fit-renamed : (instr : Instr) → AllByRecursion (SameKind numbers old new) (reads instr) → instr_kinds_fit new (new_instr numbers instr) ≡ instr_kinds_fit old instr
  instr_kinds_fit-renamed (Alu value op kind srcs) same =
      λ i. sizes_fit op kind.width (widths-renamed srcs same i) && counts_fit op kind.count (map-map (λ (src : Src). length src.swizzle) (new_src numbers) srcs i)
  instr_kinds_fit-renamed (Const value kind comps) same = refl
  instr_kinds_fit-renamed (Undef value kind) same = refl
  instr_kinds_fit-renamed (Input value kind slot) same = refl
  instr_kinds_fit-renamed (Output effect slot src) same = refl
  instr_kinds_fit-renamed (LoadBuf value kind buffer offset) same = ap (λ b. b && is_storable kind) (has_kind-renamed offset (same_kind offset_kind) same.0)
  instr_kinds_fit-renamed (StoreBuf effect buffer offset src) same =
      λ i. has_kind-renamed offset (same_kind offset_kind) same.0 i && has_kind-renamed src is_storable same.1.0 i

  instr_is_declared-renamed : (instr : Instr) → AllByRecursion (SameKind numbers old new) (reads instr) → instr_is_declared new t (new_instr numbers instr) ≡ instr_is_declared old s instr
  instr_is_declared-renamed (Alu value op kind srcs) same = refl
  instr_is_declared-renamed (Const value kind comps) same = refl
  instr_is_declared-renamed (Undef value kind) same = refl
  instr_is_declared-renamed (Input value kind slot) same = ap (λ slots. declares slots slot kind) inputs
  instr_is_declared-renamed (Output effect slot src) same =
      ap (λ slots. has_kind_that new (new_value numbers src) (declares slots slot)) outputs ∙ has_kind-renamed src (declares s.outputs slot) same.0
  instr_is_declared-renamed (LoadBuf value kind buffer offset) same = ap (nat_lt buffer) buffers
  instr_is_declared-renamed (StoreBuf effect buffer offset src) same = ap (nat_lt buffer) buffers

  instr_names-renamed : (instr : Instr) → AllByRecursion (SameKind numbers old new) (reads instr) → instr_names_components new (new_instr numbers instr) ≡ instr_names_components old instr
  instr_names-renamed (Alu value op kind srcs) same = components-renamed srcs same
  instr_names-renamed (Const value kind comps) same = refl
  instr_names-renamed (Undef value kind) same = refl
  instr_names-renamed (Input value kind slot) same = refl
  instr_names-renamed (Output effect slot src) same = refl
  instr_names-renamed (LoadBuf value kind buffer offset) same = refl
  instr_names-renamed (StoreBuf effect buffer offset src) same = refl

  -- the sources of a phi, in block order, have its kind
  phi_fits : (phi : Phi) → AllByRecursion (SameKind numbers old new) (map (λ source. source.value) phi.sources) → kinds_fit old (PhiItem phi) ≡ true → kinds_fit new (new_item numbers (PhiItem phi)) ≡ true
  phi_fits phi same kept =
      let fits : PhiSource → Type 0 = λ source. has_kind old source.value phi.kind ≡ true in
      let known : PhiSource → Type 0 = λ source. SameKind numbers old new source.value in
      let both_facts : PhiSource → Type 0 = λ source. fits source × known source in
      let sources : List PhiSource = in_block_order numbers.naming phi.sources in
      list_all-map (λ (source : PhiSource). has_kind new source.value phi.kind) (new_phi_source numbers) sources
      ∙ each_holds (λ (source : PhiSource). has_kind new (new_value numbers source.value) phi.kind) both_facts
      (λ source is. has_kind-renamed source.value (same_kind phi.kind) is.1 ∙ is.0) sources
      (all_permuted both_facts phi.sources sources (in_block_order-permutation numbers.naming phi.sources)
      (all_both fits known phi.sources
      (each (λ (source : PhiSource). has_kind old source.value phi.kind) fits (λ source is. is) phi.sources kept)
      (all_of_map (λ (source : PhiSource). source.value) (SameKind numbers old new) phi.sources same)))

  spot_kept : (item : Item) (in_loop : Bool) → AllByRecursion (SameKind numbers old new) (uses item)
      → SpotKept old s (record { item = item; in_loop = in_loop }) → SpotKept new t (record { item = new_item numbers item; in_loop = in_loop })
  spot_kept (BlockHead id) in_loop same kept = record { kinds_fit = refl; declared = refl; stands = refl; names = refl; condition = refl }
  spot_kept (PhiItem phi) in_loop same kept = record { kinds_fit = phi_fits phi same kept.kinds_fit; declared = refl; stands = refl; names = refl; condition = refl }
  spot_kept (InstrItem instr) in_loop same kept = record {
    kinds_fit = instr_kinds_fit-renamed instr same ∙ kept.kinds_fit;
    declared = instr_is_declared-renamed instr same ∙ kept.declared;
    stands = refl;
    names = instr_names-renamed instr same ∙ kept.names;
    condition = refl;
  }
  spot_kept (JumpItem jump) in_loop same kept = record { kinds_fit = refl; declared = refl; stands = kept.stands; names = refl; condition = refl }
  spot_kept (IfHead id condition) in_loop same kept =
      record { kinds_fit = refl; declared = refl; stands = refl; names = refl; condition = has_kind-renamed condition (same_kind condition_kind) same.0 ∙ kept.condition }
  spot_kept (LoopHead id) in_loop same kept = record { kinds_fit = refl; declared = refl; stands = refl; names = refl; condition = refl }

  pub spots_kept : (list : List Spot) → AllByRecursion (λ spot. AllByRecursion (SameKind numbers old new) (uses spot.item)) list
      → AllByRecursion (SpotKept old s) list → AllByRecursion (SpotKept new t) (map (new_spot numbers) list)
  spots_kept [] same kept = tt
  spots_kept (spot ∷ list) same kept = (spot_kept spot.item spot.in_loop same.0 kept.0, spots_kept list same.1 kept.1)
