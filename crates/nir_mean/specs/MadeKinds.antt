-- What an instruction makes has as many components as the kind of its value says, each as wide; and buffers hold bytes behind it.
use Rattle.std.specs.Prelude.{◌≡◌, refl, ◌<◌, ◌≤◌, ◌^◌, ℕ, zero, suc, List, [], ◌∷◌, length, map, replicate, Option, Some, None, slice_get, slice_index}
use Rattle.std.specs.List.{AllByRecursion, slice_index_or}
use Rattle.std.specs.Option.{option_map_or}
use Rattle.std.proofs.Common.{sym, subst, arith}
use Rattle.std.proofs.lemmas.List.{length-replicate}
use Rattle.std.proofs.lemmas.Nat.{pow_pos}
use Rattle.std.proofs.lemmas.Option.{none-some, same_Some}
use Rattle.nir_ops.specs.declared.width.Width.TheVariants.{W1}
use Rattle.nir_ops.specs.Width.{width_bits}
use Rattle.nir_ir.specs.declared.ids.ValueId.{ValueId}
use Rattle.nir_ir.specs.declared.kind.Kind.{Kind}
use Rattle.nir_ir.specs.declared.instr.Instr.{Instr}
use Rattle.nir_ir.specs.declared.instr.Instr.TheVariants.{Alu, Const, Undef, Input, Output, LoadBuf, StoreBuf}
use Rattle.nir_ir.specs.declared.instr.Src.{Src}
use Rattle.nir_ir.specs.Definitions.{Kinds, kind_of_target, width_in}
use Rattle.nir_ir.specs.Shaped.{IsShapedInstr, IsSwizzle}
use Rattle.nir_mean.specs.Bytes.{BuffersHold, load_kind, store_holds}
use Rattle.nir_mean.specs.Known.{HasKind}
use Rattle.nir_mean.specs.Reads.{SourceOf}
use Rattle.nir_mean.specs.Run.{Setting, kind_of, scalar, value_of, world_of}
use Rattle.nir_mean.specs.Same.{InputsFit}
use Rattle.nir_mean.specs.State.{State, zeros}
use Rattle.nir_validate.specs.Rules.{count_in}
use Rattle.nir_validate.specs.Kept.{IsRead}
use Rattle.nir_validate.specs.Typed.{FitsIn, NamesComponents}
use Rattle.nir_mean.specs.Values.{Values, alu_mean, read, source_sizes}
use Rattle.nir_mean.specs.ViewLaws.{AreWords, SourcesFit, are_words-cons, are_words-map, are_words-none, view_kind}

-- the components of a const, of an undef and of an input are as their kind says
words_all : (bits : ℕ) (comps : List ℕ) → AllByRecursion (λ comp. comp < 2 ^ bits) comps → AreWords bits comps
words_all bits [] all = are_words-none bits
words_all bits (comp ∷ comps) all = are_words-cons bits comp comps all.0 (words_all bits comps all.1)

zero_words : (bits n : ℕ) → AreWords bits (replicate n 0)
zero_words bits zero = are_words-none bits
zero_words bits (suc n) = are_words-cons bits 0 (replicate n 0) (pow_pos bits) (zero_words bits n)

pub zeros_kind : (kind : Kind) → HasKind kind (zeros kind)
zeros_kind kind = record { count = length-replicate kind.count 0; words = zero_words (width_bits kind.width) kind.count }

pub input_kind : (kinds : List Kind) (inputs : List (List ℕ)) (slot : ℕ) (kind : Kind) → InputsFit kinds inputs → slice_get kinds slot ≡ Some kind → HasKind kind (slice_index_or inputs slot [])
input_kind [] [] slot kind fit is = absurd (none-some kind is)
input_kind [] (comps ∷ inputs) slot kind fit is = absurd fit
input_kind (first ∷ kinds) [] slot kind fit is = absurd fit
input_kind (first ∷ kinds) (comps ∷ inputs) zero kind fit is = subst (λ (k : Kind). HasKind k comps) (same_Some first kind is) fit.0
input_kind (first ∷ kinds) (comps ∷ inputs) (suc slot) kind fit is = input_kind kinds inputs slot kind fit.1 is

-- each value that an instruction reads has the components that its kind says
abbrev pub ReadsHave : Kinds → Instr → Values → Type 0
ReadsHave kinds instr values = (id : ValueId) (kind : Kind) → IsRead instr id → kinds id ≡ Some kind → HasKind kind (values id.0)

-- a source names components that its value has, so its value has a kind
source_words : (kinds : Kinds) (values : Values) (id : ValueId) (swizzle : List ℕ) → 1 ≤ length swizzle → AllByRecursion (λ entry. entry < count_in kinds id) swizzle
    → ((kind : Kind) → kinds id ≡ Some kind → HasKind kind (values id.0)) → AreWords (width_bits (width_in kinds id)) (values id.0)
source_words kinds values id [] some names h = absurd (omega (arith, some))
source_words kinds values id (entry ∷ swizzle) some names h = by (kinds id) refl where
  by : (found : Option Kind) → kinds id ≡ found → AreWords (width_bits (width_in kinds id)) (values id.0)
  by None is =
      let within : entry < 0 = subst (λ (found : Option Kind). entry < option_map_or (λ kind. kind.count) found 0) is names.0 in
      absurd (omega (arith, within))
  by (Some kind) is = subst (λ (found : Option Kind). AreWords (width_bits (option_map_or (λ kind. kind.width) found W1)) (values id.0)) (sym is) (h kind is).words

-- what an opcode makes of values that have their kinds
sources_fit : (kinds : Kinds) (values : Values) (srcs : List Src) → AllByRecursion (λ src. IsSwizzle src.swizzle) srcs → AllByRecursion (NamesComponents kinds) srcs
    → ((id : ValueId) (kind : Kind) → SourceOf srcs id → kinds id ≡ Some kind → HasKind kind (values id.0)) → SourcesFit (source_sizes kinds srcs) (map (read values) srcs)
sources_fit kinds values [] swizzles names h = tt
sources_fit kinds values (src ∷ srcs) swizzles names h = (
  are_words-map (width_bits (width_in kinds src.value)) (λ c. slice_index (values src.value.0) c) src.swizzle
      (source_words kinds values src.value src.swizzle swizzles.0.some names.0 (λ kind is. h src.value kind (0, refl) is)),
  sources_fit kinds values srcs swizzles.1 names.1 (λ id kind at is. h id kind (suc at.0, at.1) is),
)

-- the components of a value, where there is one
abbrev pub KindOf : Option Kind → List ℕ → Type 0
KindOf None comps = Unit {0}
KindOf (Some kind) comps = HasKind kind comps

-- what an instruction makes has the kind of its value, where it fits the kinds and what it reads has them
pub made_kind : (m : Setting) (inputs outputs : List Kind) (buffers : ℕ) (instr : Instr) (state : State)
    → InputsFit inputs m.inputs → IsShapedInstr instr → FitsIn m.kinds inputs outputs buffers instr → ReadsHave m.kinds instr state.values → BuffersHold state.world.buffers
    → KindOf (kind_of_target instr) (value_of m instr state)
unfolding alu_mean
made_kind m inputs outputs buffers (Alu id op kind srcs) state given shaped fits reads hold =
    view_kind op kind (source_sizes m.kinds srcs) (map (λ src. length src.swizzle) srcs) (map (read state.values) srcs) fits.widths fits.counts
    (sources_fit m.kinds state.values srcs shaped.2 fits.names reads)
made_kind m inputs outputs buffers (Const id kind comps) state given shaped fits reads hold =
    record { count = shaped.1.count; words = words_all (width_bits kind.width) comps shaped.1.words }
made_kind m inputs outputs buffers (Undef id kind) state given shaped fits reads hold = zeros_kind kind
made_kind m inputs outputs buffers (Input id kind slot) state given shaped fits reads hold = input_kind inputs m.inputs slot kind given fits
made_kind m inputs outputs buffers (Output effect slot src) state given shaped fits reads hold = tt
made_kind m inputs outputs buffers (LoadBuf id kind buffer offset) state given shaped fits reads hold = load_kind state.world kind buffer (scalar state.values offset) hold
made_kind m inputs outputs buffers (StoreBuf effect buffer offset src) state given shaped fits reads hold = tt

-- the buffers hold bytes after each instruction
pub world_holds : (s : Setting) (instr : Instr) (state : State) → BuffersHold state.world.buffers → BuffersHold (world_of s instr state).buffers
world_holds s (Alu id op kind srcs) state hold = hold
world_holds s (Const id kind comps) state hold = hold
world_holds s (Undef id kind) state hold = hold
world_holds s (Input id kind slot) state hold = hold
world_holds s (Output effect slot src) state hold = hold
world_holds s (LoadBuf id kind buffer offset) state hold = hold
world_holds s (StoreBuf effect buffer offset src) state hold =
    store_holds (record { buffer = buffer; offset = scalar state.values offset; kind = kind_of s.kinds src; comps = state.values src.0 }) state.world hold
