-- The tests of single items decide what they are named for.
use Rattle.std.specs.Prelude.{◌≡◌, ◌≢◌, refl, ℕ, ◌<◌, Bool, true, false, not, nat_eq, nat_lt, List, [], ◌∷◌, length, map, Option, Some, None, slice_get}
use Rattle.std.specs.List.{AllByRecursion, list_all}
use Rattle.std.specs.Option.{option_map_or}
use Rattle.std.specs.Cmp.Lexicographic.{pointwise, same_text}
use Rattle.std.proofs.Common.{sym, ◌∙◌, ap, subst}
use Rattle.std.proofs.lemmas.Bool.{and_from, and_parts, eqb-true, eq-eqb, lt-ltb, ltb-true, true≢false}
use Rattle.nir_ops.specs.declared.op.Op.{Op}
use Rattle.nir_ops.specs.declared.width.Width.{Width}
use Rattle.nir_ops.specs.declared.width.Width.TheVariants.{W1, W8, W16, W32, W64}
use Rattle.nir_ops.specs.Opcodes.{op_info}
use Rattle.op_eval.specs.Calls.{same_width, sizes_fit}
use Rattle.op_eval.specs.Sizes.{Fits-from_sizes_fit, same_width-from_equal, same_width-same, sizes_fit-from_Fits}
use Rattle.op_eval.specs.Views.{CountsFit, count_at}
use Rattle.nir_ir.specs.declared.ids.ValueId.{ValueId}
use Rattle.nir_ir.specs.declared.instr.Instr.{Instr}
use Rattle.nir_ir.specs.declared.instr.Instr.TheVariants.{Alu, Const, Undef, Input, Output, LoadBuf, StoreBuf}
use Rattle.nir_ir.specs.declared.instr.Src.{Src}
use Rattle.nir_ir.specs.declared.kind.Kind.{Kind}
use Rattle.nir_ir.specs.Shader.{Shader}
use Rattle.nir_validate.specs.Rules.{Kinds, count_in, counts_fit, has_kind, has_kind_that, instr_is_declared, instr_kinds_fit, instr_names_components, is_storable, names_components, offset_kind, same_kind, width_in}
use Rattle.nir_validate.specs.Typed.{FitsIn, HasKindThat, IsStorable, NamesComponents}

-- a test of each item of a list
pub each : {A : Type 0} (test : A → Bool) (P : A → Type 0) → ((a : A) → test a ≡ true → P a) → (list : List A) → list_all test list ≡ true → AllByRecursion P list
each test P h [] is = tt
each test P h (a ∷ list) is = let parts = and_parts (test a) (list_all test list) is in (h a parts.0, each test P h list parts.1)

pub each_holds : {A : Type 0} (test : A → Bool) (P : A → Type 0) → ((a : A) → P a → test a ≡ true) → (list : List A) → AllByRecursion P list → list_all test list ≡ true
each_holds test P h [] all = refl
each_holds test P h (a ∷ list) all = and_from (test a) (list_all test list) (h a all.0) (each_holds test P h list all.1)

-- bit sizes
pointwise_same : {A : Type 0} (test : A → A → Bool) → ((a : A) → test a a ≡ true) → (list : List A) → pointwise test list list ≡ true
pointwise_same test h [] = refl
pointwise_same test h (a ∷ list) = and_from (test a a) (pointwise test list list) (h a) (pointwise_same test h list)

pointwise_equal : {A : Type 0} (test : A → A → Bool) → ((a : A) → test a a ≡ true) → (a b : List A) → a ≡ b → pointwise test a b ≡ true
pointwise_equal test h a b same = subst (λ t. pointwise test a t ≡ true) same (pointwise_same test h a)

-- kinds
pub kind_by_parts : (a b : Kind) → same_kind a b ≡ true → a ≡ b
kind_by_parts a b h =
    let parts = and_parts (same_width a.width b.width) (nat_eq a.count b.count) h in
    let width : a.width ≡ b.width = same_width-same a.width b.width parts.0 in
    let count : a.count ≡ b.count = eqb-true a.count b.count parts.1 in
    λ i. record { width = width i; count = count i }

pub equal_kinds : (a b : Kind) → a ≡ b → same_kind a b ≡ true
equal_kinds a b same = and_from (same_width a.width b.width) (nat_eq a.count b.count) (same_width-from_equal a.width b.width (ap (λ (k : Kind). k.width) same)) (eq-eqb a.count b.count (ap (λ (k : Kind). k.count) same))

-- an opcode's bit sizes and numbers of components
pub counts_fit-true : (op : Op) (count : ℕ) (counts : List ℕ) → counts_fit op count counts ≡ true → CountsFit op count counts
unfolding counts_fit
counts_fit-true op count counts h =
    let parts = and_parts (nat_eq (count_at (op_info op).out_count count) count) (pointwise nat_eq (map (λ input. count_at input.count count) (op_info op).inputs) counts) h in
    record { result = eqb-true (count_at (op_info op).out_count count) count parts.0; sources = same_text (map (λ input. count_at input.count count) (op_info op).inputs) counts (sym parts.1) }

pub fits-counts : (op : Op) (count : ℕ) (counts : List ℕ) → CountsFit op count counts → counts_fit op count counts ≡ true
unfolding counts_fit
fits-counts op count counts fits =
    and_from (nat_eq (count_at (op_info op).out_count count) count) (pointwise nat_eq (map (λ input. count_at input.count count) (op_info op).inputs) counts)
    (eq-eqb (count_at (op_info op).out_count count) count fits.result)
    (pointwise_equal nat_eq (λ n. eq-eqb n n refl) (map (λ input. count_at input.count count) (op_info op).inputs) counts fits.sources)

-- a value that has a kind
pub has_kind-true : (kinds : Kinds) (value : ValueId) (kind : Kind) (found : Option Kind) → kinds value ≡ found → has_kind kinds value kind ≡ true → kinds value ≡ Some kind
has_kind-true kinds value kind None is h = absurd (true≢false (sym h ∙ ap (λ k. option_map_or (same_kind kind) k false) is))
has_kind-true kinds value kind (Some other) is h =
    is ∙ ap {B = Option Kind} Some (sym (kind_by_parts kind other (sym (ap (λ k. option_map_or (same_kind kind) k false) is) ∙ h)))

pub kind-has_kind : (kinds : Kinds) (value : ValueId) (kind : Kind) → kinds value ≡ Some kind → has_kind kinds value kind ≡ true
kind-has_kind kinds value kind is = ap (λ k. option_map_or (same_kind kind) k false) is ∙ equal_kinds kind kind refl

storable-true : (kind : Kind) → is_storable kind ≡ true → IsStorable kind
storable-true kind h is = true≢false (sym h ∙ ap not (same_width-from_equal kind.width W1 is))

storable-bits : (width : Width) → width ≢ W1 → not (same_width width W1) ≡ true
storable-bits W1 h = absurd (h refl)
storable-bits W8 h = refl
storable-bits W16 h = refl
storable-bits W32 h = refl
storable-bits W64 h = refl

found_storable : (found : Option Kind) → option_map_or is_storable found false ≡ true → HasKindThat found IsStorable
found_storable None h = true≢false (sym h)
found_storable (Some kind) h = storable-true kind h

storable_found : (found : Option Kind) → HasKindThat found IsStorable → option_map_or is_storable found false ≡ true
storable_found None h = absurd h
storable_found (Some kind) h = storable-bits kind.width h

-- a slot that is declared with a kind
declared-true : (kind : Kind) (found : Option Kind) → option_map_or (same_kind kind) found false ≡ true → found ≡ Some kind
declared-true kind None h = absurd (true≢false (sym h))
declared-true kind (Some other) h = ap {B = Option Kind} Some (sym (kind_by_parts kind other h))

kind-declared : (kind : Kind) (found : Option Kind) → found ≡ Some kind → option_map_or (same_kind kind) found false ≡ true
kind-declared kind found is = ap (λ k. option_map_or (same_kind kind) k false) is ∙ equal_kinds kind kind refl

output-true : (slot_kind value_kind : Option Kind) → option_map_or (λ kind. option_map_or (same_kind kind) slot_kind false) value_kind false ≡ true → HasKindThat slot_kind (λ kind. value_kind ≡ Some kind)
output-true slot_kind None h = absurd (true≢false (sym h))
output-true None (Some kind) h = true≢false (sym h)
output-true (Some other) (Some kind) h = ap {B = Option Kind} Some (kind_by_parts kind other h)

output-kind : (slot_kind value_kind : Option Kind) → HasKindThat slot_kind (λ kind. value_kind ≡ Some kind) → option_map_or (λ kind. option_map_or (same_kind kind) slot_kind false) value_kind false ≡ true
output-kind None value_kind h = absurd h
output-kind (Some other) value_kind h = ap (λ v. option_map_or (λ kind. same_kind kind other) v false) h ∙ equal_kinds other other refl

-- sources name components
names-true : (kinds : Kinds) (src : Src) → names_components kinds src ≡ true → NamesComponents kinds src
names-true kinds src h = each (λ entry. nat_lt entry (count_in kinds src.value)) (λ entry. entry < count_in kinds src.value) (λ entry. ltb-true entry (count_in kinds src.value)) src.swizzle h

names-hold : (kinds : Kinds) (src : Src) → NamesComponents kinds src → names_components kinds src ≡ true
names-hold kinds src h = each_holds (λ entry. nat_lt entry (count_in kinds src.value)) (λ entry. entry < count_in kinds src.value) (λ entry. lt-ltb entry (count_in kinds src.value)) src.swizzle h

-- an instruction keeps its rules exactly where it fits
pub record Kept (kinds : Kinds) (s : Shader) (instr : Instr) : Type 0 where
  pub kinds_fit : instr_kinds_fit kinds instr ≡ true
  pub declared : instr_is_declared kinds s instr ≡ true
  pub names : instr_names_components kinds instr ≡ true

pub fits_from_kept : (kinds : Kinds) (s : Shader) (instr : Instr) → Kept kinds s instr → FitsIn kinds s.inputs s.outputs s.buffers instr
fits_from_kept kinds s (Alu id op kind srcs) kept =
    let parts = and_parts (sizes_fit op kind.width (map (λ src. width_in kinds src.value) srcs)) (counts_fit op kind.count (map (λ src. length src.swizzle) srcs)) kept.kinds_fit in
    record {
      widths = Fits-from_sizes_fit op kind.width (map (λ src. width_in kinds src.value) srcs) parts.0;
      counts = counts_fit-true op kind.count (map (λ src. length src.swizzle) srcs) parts.1;
      names = each (names_components kinds) (NamesComponents kinds) (names-true kinds) srcs kept.names;
    }
fits_from_kept kinds s (Const id kind comps) kept = tt
fits_from_kept kinds s (Undef id kind) kept = tt
fits_from_kept kinds s (Input id kind slot) kept = declared-true kind (slice_get s.inputs slot) kept.declared
fits_from_kept kinds s (Output effect slot src) kept = output-true (slice_get s.outputs slot) (kinds src) kept.declared
fits_from_kept kinds s (LoadBuf id kind buffer offset) kept =
    let parts = and_parts (has_kind kinds offset offset_kind) (is_storable kind) kept.kinds_fit in
    (ltb-true buffer s.buffers kept.declared, has_kind-true kinds offset offset_kind (kinds offset) refl parts.0, storable-true kind parts.1)
fits_from_kept kinds s (StoreBuf effect buffer offset src) kept =
    let parts = and_parts (has_kind kinds offset offset_kind) (has_kind_that kinds src is_storable) kept.kinds_fit in
    (ltb-true buffer s.buffers kept.declared, has_kind-true kinds offset offset_kind (kinds offset) refl parts.0, found_storable (kinds src) parts.1)

pub kept_from_fits : (kinds : Kinds) (s : Shader) (instr : Instr) → FitsIn kinds s.inputs s.outputs s.buffers instr → Kept kinds s instr
kept_from_fits kinds s (Alu id op kind srcs) fits = record {
  kinds_fit = and_from (sizes_fit op kind.width (map (λ src. width_in kinds src.value) srcs)) (counts_fit op kind.count (map (λ src. length src.swizzle) srcs))
      (sizes_fit-from_Fits op kind.width (map (λ src. width_in kinds src.value) srcs) fits.widths)
      (fits-counts op kind.count (map (λ src. length src.swizzle) srcs) fits.counts);
  declared = refl;
  names = each_holds (names_components kinds) (NamesComponents kinds) (names-hold kinds) srcs fits.names;
}
kept_from_fits kinds s (Const id kind comps) fits = record { kinds_fit = refl; declared = refl; names = refl }
kept_from_fits kinds s (Undef id kind) fits = record { kinds_fit = refl; declared = refl; names = refl }
kept_from_fits kinds s (Input id kind slot) fits = record { kinds_fit = refl; declared = kind-declared kind (slice_get s.inputs slot) fits; names = refl }
kept_from_fits kinds s (Output effect slot src) fits = record { kinds_fit = refl; declared = output-kind (slice_get s.outputs slot) (kinds src) fits; names = refl }
kept_from_fits kinds s (LoadBuf id kind buffer offset) fits = record {
  kinds_fit = and_from (has_kind kinds offset offset_kind) (is_storable kind) (kind-has_kind kinds offset offset_kind fits.1) (storable-bits kind.width fits.2);
  declared = lt-ltb buffer s.buffers fits.0;
  names = refl;
}
kept_from_fits kinds s (StoreBuf effect buffer offset src) fits = record {
  kinds_fit = and_from (has_kind kinds offset offset_kind) (has_kind_that kinds src is_storable) (kind-has_kind kinds offset offset_kind fits.1) (storable_found (kinds src) fits.2);
  declared = lt-ltb buffer s.buffers fits.0;
  names = refl;
}
