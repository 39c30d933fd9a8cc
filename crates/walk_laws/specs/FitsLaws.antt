-- Instructions in the place of one: the items of the shader still fit, where the new ones do.
use Rattle.std.specs.Prelude.{◌≡◌, refl, ℕ, ◌<◌, Bool, true, false, cond, List, [], ◌∷◌, ◌++◌, map, Option, Some, slice_get}
use Rattle.std.specs.List.{AllByRecursion, flat_map}
use Rattle.std.specs.Option.{option_map_or}
use Rattle.std.proofs.Common.{sym, ◌∙◌, ap₂, subst}
use Rattle.list_laws.specs.AllLaws.{all_append, all_back, all_each, all_front, given_by_each}
use Rattle.nir_ops.specs.declared.width.Width.{Width}
use Rattle.nir_ops.specs.declared.width.Width.TheVariants.{W1}
use Rattle.op_eval.specs.Calls.{Fits}
use Rattle.nir_ir.specs.declared.ids.ValueId.{ValueId}
use Rattle.nir_ir.specs.declared.instr.Instr.{Instr}
use Rattle.nir_ir.specs.declared.instr.Instr.TheVariants.{Alu, Const, Undef, Input, Output, LoadBuf, StoreBuf}
use Rattle.nir_ir.specs.declared.instr.Src.{Src}
use Rattle.nir_ir.specs.declared.kind.Kind.{Kind}
use Rattle.nir_ir.specs.declared.node.Phi.{Phi}
use Rattle.nir_ir.specs.declared.node.PhiSource.{PhiSource}
use Rattle.nir_ir.specs.Definitions.{instr_defining, is_target, kind_at, kind_of_target}
use Rattle.nir_ir.specs.Edits.{ArePlaced, in_place_of, replaced}
use Rattle.nir_ir.specs.Items.{Item, InstrItem, PhiItem, block_items, items, reads, uses, values_defined}
use Rattle.nir_ir.specs.Nodes.{Nodes, Nil, BlockThen, IfThen, LoopThen}
use Rattle.nir_ir.specs.Shaped.{IsOneOf, IsShaped}
use Rattle.nir_ir.specs.Shader.{Shader}
use Rattle.nir_validate.specs.Rules.{Kinds, width_in}
use Rattle.nir_validate.specs.Typed.{FitsIn, HasKindThat, InstrFits, IsStorable, NamesComponents, NodesFit, PhiFits}
use Rattle.edit_laws.specs.DefiningLaws.{instrs_have, phis_have}
use Rattle.edit_laws.specs.KindsLaws.{kind_kept}
use Rattle.edit_laws.specs.NumbersLaws.{member_has}

-- other kinds agree with these on the values
abbrev pub SameKinds : Kinds → Kinds → List ValueId → Type 0
SameKinds kinds others list = AllByRecursion (λ id. others id ≡ kinds id) list

-- an instruction that fits some kinds fits kinds that agree on what it uses
widths_same : (kinds others : Kinds) (srcs : List Src) → SameKinds kinds others (map (λ src. src.value) srcs) → map (λ src. width_in kinds src.value) srcs ≡ map (λ src. width_in others src.value) srcs
widths_same kinds others [] same = refl
widths_same kinds others (src ∷ srcs) same = ap₂ (λ (found : Option Kind) (rest : List Width). option_map_or (λ (kind : Kind). kind.width) found W1 ∷ rest) (sym same.0) (widths_same kinds others srcs same.1)

names_same : (kinds others : Kinds) (srcs : List Src) → SameKinds kinds others (map (λ src. src.value) srcs) → AllByRecursion (NamesComponents kinds) srcs → AllByRecursion (NamesComponents others) srcs
names_same kinds others [] same all = tt
names_same kinds others (src ∷ srcs) same all = (
  subst (λ (found : Option Kind). AllByRecursion (λ entry. entry < option_map_or (λ (kind : Kind). kind.count) found 0) src.swizzle) (sym same.0) all.0,
  names_same kinds others srcs same.1 all.1,
)

pub fits_same : (kinds others : Kinds) (inputs outputs : List Kind) (buffers : ℕ) (instr : Instr) → SameKinds kinds others (reads instr) → FitsIn kinds inputs outputs buffers instr → FitsIn others inputs outputs buffers instr
fits_same kinds others inputs outputs buffers (Alu id op kind srcs) same fits =
    record { widths = subst (Fits op kind.width) (widths_same kinds others srcs same) fits.widths; counts = fits.counts; names = names_same kinds others srcs same fits.names }
fits_same kinds others inputs outputs buffers (Const id kind comps) same fits = tt
fits_same kinds others inputs outputs buffers (Undef id kind) same fits = tt
fits_same kinds others inputs outputs buffers (Input id kind slot) same fits = fits
fits_same kinds others inputs outputs buffers (Output effect slot src) same fits = subst (λ found. HasKindThat (slice_get outputs slot) (λ kind. found ≡ Some kind)) (sym same.0) fits
fits_same kinds others inputs outputs buffers (LoadBuf id kind buffer offset) same fits = (fits.0, same.0 ∙ fits.1, fits.2)
fits_same kinds others inputs outputs buffers (StoreBuf effect buffer offset src) same fits = (fits.0, same.0 ∙ fits.1, subst (λ found. HasKindThat found IsStorable) (sym same.1.0) fits.2)

phi_same : (kinds others : Kinds) (kind : Kind) (sources : List PhiSource) → SameKinds kinds others (map (λ source. source.value) sources) → AllByRecursion (λ source. kinds source.value ≡ Some kind) sources
    → AllByRecursion (λ source. others source.value ≡ Some kind) sources
phi_same kinds others kind [] same all = tt
phi_same kinds others kind (source ∷ sources) same all = (same.0 ∙ all.0, phi_same kinds others kind sources same.1 all.1)

-- ---- node by node

abbrev pub UsesKept : Kinds → Kinds → Item → Type 0
UsesKept kinds others item = SameKinds kinds others (uses item)

phis_fit : (kinds others : Kinds) (phis : List Phi) → AllByRecursion (λ phi. UsesKept kinds others (PhiItem phi)) phis → AllByRecursion (PhiFits kinds) phis → AllByRecursion (PhiFits others) phis
phis_fit kinds others [] kept all = tt
phis_fit kinds others (phi ∷ phis) kept all = (phi_same kinds others phi.kind phi.sources kept.0 all.0, phis_fit kinds others phis kept.1 all.1)

instrs_fit : (s t : Shader) (value : ValueId) (news : List Instr) → s.inputs ≡ t.inputs → s.outputs ≡ t.outputs → s.buffers ≡ t.buffers → AllByRecursion (InstrFits t) news
    → (instrs : List Instr) → AllByRecursion (λ instr. UsesKept (kind_at s.body) (kind_at t.body) (InstrItem instr)) instrs → AllByRecursion (InstrFits s) instrs → AllByRecursion (InstrFits t) (flat_map (in_place_of value news) instrs)
instrs_fit s t value news ins outs bufs fit [] kept all = tt
instrs_fit s t value news ins outs bufs fit (instr ∷ instrs) kept all =
    all_append (InstrFits t) (in_place_of value news instr) (flat_map (in_place_of value news) instrs) (by_test (is_target value instr)) (instrs_fit s t value news ins outs bufs fit instrs kept.1 all.1)
  where
    declared : FitsIn (kind_at t.body) s.inputs s.outputs s.buffers instr → InstrFits t instr
    declared own = subst (λ b. FitsIn (kind_at t.body) t.inputs t.outputs b instr) bufs (subst (λ o. FitsIn (kind_at t.body) t.inputs o s.buffers instr) outs (subst (λ i. FitsIn (kind_at t.body) i s.outputs s.buffers instr) ins own))

    by_test : (test : Bool) → AllByRecursion (InstrFits t) (cond test news (instr ∷ []))
    by_test true = fit
    by_test false = (declared (fits_same (kind_at s.body) (kind_at t.body) s.inputs s.outputs s.buffers instr kept.0 all.0), tt)

pub placed_fit : (s t : Shader) (value : ValueId) (news : List Instr) → s.inputs ≡ t.inputs → s.outputs ≡ t.outputs → s.buffers ≡ t.buffers → AllByRecursion (InstrFits t) news
    → (nodes : Nodes) → AllByRecursion (UsesKept (kind_at s.body) (kind_at t.body)) (items nodes) → NodesFit s nodes → NodesFit t (replaced value news nodes)
placed_fit s t value news ins outs bufs fit Nil kept all = tt
placed_fit s t value news ins outs bufs fit (BlockThen b rest) kept all =
    let K = UsesKept (kind_at s.body) (kind_at t.body) in
    let own = all_front K (block_items b) (items rest) kept in (
      (phis_fit (kind_at s.body) (kind_at t.body) b.phis (phis_have K b own) all.0.0, instrs_fit s t value news ins outs bufs fit b.instrs (instrs_have K b own) all.0.1),
      placed_fit s t value news ins outs bufs fit rest (all_back K (block_items b) (items rest) kept) all.1,
    )
placed_fit s t value news ins outs bufs fit (IfThen id condition first second rest) kept all =
    let K = UsesKept (kind_at s.body) (kind_at t.body) in
    let lists = all_front K (items first ++ items second) (items rest) kept.1 in (
      kept.0.0 ∙ all.0,
      placed_fit s t value news ins outs bufs fit first (all_front K (items first) (items second) lists) all.1,
      placed_fit s t value news ins outs bufs fit second (all_back K (items first) (items second) lists) all.2,
      placed_fit s t value news ins outs bufs fit rest (all_back K (items first ++ items second) (items rest) kept.1) all.3,
    )
placed_fit s t value news ins outs bufs fit (LoopThen id body rest) kept all =
    let K = UsesKept (kind_at s.body) (kind_at t.body) in (
      placed_fit s t value news ins outs bufs fit body (all_front K (items body) (items rest) kept.1) all.0,
      placed_fit s t value news ins outs bufs fit rest (all_back K (items body) (items rest) kept.1) all.1,
    )

-- what a shaped shader uses keeps its kind
used_kept : (s : Shader) (value : ValueId) (old : Instr) (news : List Instr) (after : ℕ) → IsShaped s → instr_defining value s.body ≡ Some old → (placed : ArePlaced s.next_value after value news) → value.0 < s.next_value
    → kind_of_target placed.last ≡ kind_of_target old → (list : List ValueId) → AllByRecursion (IsOneOf (values_defined s.body)) (map (λ id. id.0) list) → SameKinds (kind_at s.body) (kind_at (replaced value news s.body)) list
used_kept s value old news after shaped found placed low same [] all = tt
used_kept s value old news after shaped found placed low same (id ∷ list) all = (
  kind_kept s value id old news after shaped found placed low same (member_has (λ v. v < s.next_value) (values_defined s.body) id.0 shaped.below all.0),
  used_kept s value old news after shaped found placed low same list all.1,
)

pub uses_kept : (s : Shader) (value : ValueId) (old : Instr) (news : List Instr) (after : ℕ) → IsShaped s → instr_defining value s.body ≡ Some old → (placed : ArePlaced s.next_value after value news) → value.0 < s.next_value
    → kind_of_target placed.last ≡ kind_of_target old → AllByRecursion (UsesKept (kind_at s.body) (kind_at (replaced value news s.body))) (items s.body)
uses_kept s value old news after shaped found placed low same =
    all_each (λ item. AllByRecursion (IsOneOf (values_defined s.body)) (map (λ id. id.0) (uses item))) (UsesKept (kind_at s.body) (kind_at (replaced value news s.body)))
    (λ item all. used_kept s value old news after shaped found placed low same (uses item) all) (items s.body)
    (given_by_each (IsOneOf (values_defined s.body)) (λ item. map (λ id. id.0) (uses item)) (items s.body) shaped.uses)
