-- The phis and the instructions of a renumbered block do what those of the block do.
use Rattle.std.specs.Prelude.{◌≡◌, refl, ℕ, nat_eq, List, [], ◌∷◌, map, Option, Some, None, slice_index}
use Rattle.std.specs.List.{AllByRecursion, find, slice_index_or}
use Rattle.std.specs.Option.{option_map, option_map_or, option_to_list, unwrap_or}
use Rattle.std.proofs.Common.{◌∙◌, ap}
use Rattle.nir_ops.specs.declared.op.Op.{Op}
use Rattle.nir_ops.specs.declared.width.Width.TheVariants.{W1}
use Rattle.nir_ops.specs.Width.{width_bits}
use Rattle.op_eval.specs.Calls.{unsized_width}
use Rattle.op_eval.specs.Views.{view_mean}
use Rattle.nir_ir.specs.declared.ids.BlockId.{BlockId}
use Rattle.nir_ir.specs.declared.ids.ValueId.{ValueId}
use Rattle.nir_ir.specs.declared.instr.Instr.{Instr}
use Rattle.nir_ir.specs.declared.instr.Instr.TheVariants.{Alu, Const, Undef, Input, Output, LoadBuf, StoreBuf}
use Rattle.nir_ir.specs.declared.instr.Src.{Src}
use Rattle.nir_ir.specs.declared.kind.Kind.{Kind}
use Rattle.nir_ir.specs.declared.node.Phi.{Phi}
use Rattle.nir_ir.specs.declared.node.PhiSource.{PhiSource}
use Rattle.nir_ir.specs.Definitions.{is_from}
use Rattle.nir_ir.specs.Items.{reads, target}
use Rattle.nir_ir.specs.Shaped.{IsOneOf}
use Rattle.nir_mean.specs.Renamed.{IsNamed, KeepsApart, Renaming, SameState, SameValues, run_instr-same}
use Rattle.nir_mean.specs.Run.{Setting, phi_value, run_instr, run_instrs, run_phis, value_of, world_of}
use Rattle.nir_mean.specs.State.{State, load, put_out, store, zeros}
use Rattle.nir_mean.specs.Values.{Values, alu_mean, read, source_sizes}
use Rattle.nir_print.specs.Naming.{place}
use Rattle.nir_print.specs.Renumber.{Numbers, new_block, new_instr, new_phi, new_phi_source, new_src, new_value}
use Rattle.list_laws.specs.AllLaws.{all_each}
use Rattle.print_meaning.proofs.BlockOrder.{found_holds, taken-renumbered}
use Rattle.print_meaning.proofs.Places.{find_renamed, place-same, target-new_instr}

-- the renaming that gives each number its place
abbrev pub by_places : Numbers → Renaming
by_places numbers = record {
  values = numbers.naming.values;
  blocks = numbers.naming.blocks;
  value = place numbers.naming.values;
  block = place numbers.naming.blocks;
}

pub places_apart : (list : List ℕ) → KeepsApart list (place list)
places_apart list = place-same list

-- ---- phis

-- what a phi defines and reads is named
pub record PhiNamed (numbers : Numbers) (phi : Phi) : Type 0 where
  pub defined : IsOneOf numbers.naming.values phi.value.0
  pub read : AllByRecursion (λ source. IsOneOf numbers.naming.values source.value.0) phi.sources
  pub blocks : AllByRecursion (λ source. IsOneOf numbers.naming.blocks source.from.0) phi.sources

phi_value-renumbered : (numbers : Numbers) (last : Option BlockId) (phi : Phi) (f g : Values) → IsNamed numbers.naming.blocks last → PhiNamed numbers phi → SameValues (by_places numbers) f g
    → phi_value (option_map (new_block numbers) last) g (new_phi numbers phi) ≡ phi_value last f phi
phi_value-renumbered numbers last phi f g named parts same =
    ap (λ found. option_map_or (λ source. g source.value.0) found (zeros phi.kind)) (taken-renumbered numbers last phi.sources named parts.blocks)
    ∙ by (find (is_from last) phi.sources) refl
  where
    by : (found : Option PhiSource) → find (is_from last) phi.sources ≡ found
        → option_map_or (λ source. g source.value.0) (option_map (new_phi_source numbers) found) (zeros phi.kind) ≡ option_map_or (λ source. f source.value.0) found (zeros phi.kind)
    by None e = refl
    by (Some source) e = same source.value.0 (found_holds (λ s. IsOneOf numbers.naming.values s.value.0) (is_from last) phi.sources source parts.read e)

pub run_phis-renumbered : (numbers : Numbers) (last : Option BlockId) (phis : List Phi) (f g : Values) → IsNamed numbers.naming.blocks last → AllByRecursion (PhiNamed numbers) phis
    → SameValues (by_places numbers) f g → SameValues (by_places numbers) (run_phis last phis f) (run_phis (option_map (new_block numbers) last) (map (new_phi numbers) phis) g)
run_phis-renumbered numbers last phis f g named all same n is =
    ap (λ found. option_map_or (phi_value (option_map (new_block numbers) last) g) found (g new))
    (find_renamed (new_phi numbers) (λ phi. nat_eq phi.value.0 n) (λ phi. nat_eq phi.value.0 new) phis
    (all_each (PhiNamed numbers) (λ phi. nat_eq (new_phi numbers phi).value.0 new ≡ nat_eq phi.value.0 n)
    (λ phi parts. place-same numbers.naming.values phi.value.0 n parts.defined is) phis all))
    ∙ by (find (λ phi. nat_eq phi.value.0 n) phis) refl
  where
    new : ℕ
    new = place numbers.naming.values n

    by : (found : Option Phi) → find (λ phi. nat_eq phi.value.0 n) phis ≡ found
        → option_map_or (phi_value (option_map (new_block numbers) last) g) (option_map (new_phi numbers) found) (g new) ≡ option_map_or (phi_value last f) found (f n)
    by None e = same n is
    by (Some phi) e = phi_value-renumbered numbers last phi f g named (found_holds (PhiNamed numbers) (λ p. nat_eq p.value.0 n) phis phi all e) same

-- ---- instructions

-- settings of the same inputs and repeats, in which each named value has its kind under its new number
pub record SameSetting (numbers : Numbers) (s t : Setting) : Type 0 where
  pub kinds : (value : ValueId) → IsOneOf numbers.naming.values value.0 → t.kinds (new_value numbers value) ≡ s.kinds value
  pub given : t.inputs ≡ s.inputs
  pub turns : t.repeats ≡ s.repeats

-- what an instruction defines and reads is named
pub record InstrNamed (numbers : Numbers) (instr : Instr) : Type 0 where
  pub defined : AllByRecursion (IsOneOf numbers.naming.values) (map (λ id. id.0) (option_to_list (target instr)))
  pub read : AllByRecursion (IsOneOf numbers.naming.values) (map (λ id. id.0) (reads instr))

abbrev AreNamed : Numbers → List Src → Type 0
AreNamed numbers srcs = AllByRecursion (IsOneOf numbers.naming.values) (map (λ id. id.0) (map (λ src. src.value) srcs))

sources-renumbered : (numbers : Numbers) (srcs : List Src) (f g : Values) → AreNamed numbers srcs → SameValues (by_places numbers) f g → map (read g) (map (new_src numbers) srcs) ≡ map (read f) srcs
sources-renumbered numbers [] f g named same = refl
sources-renumbered numbers (src ∷ srcs) f g named same =
    λ i. map (λ c. slice_index (same src.value.0 named.0 i) c) src.swizzle ∷ sources-renumbered numbers srcs f g named.1 same i

sizes-renumbered : (numbers : Numbers) (s t : Setting) (srcs : List Src) → AreNamed numbers srcs → SameSetting numbers s t → source_sizes t.kinds (map (new_src numbers) srcs) ≡ source_sizes s.kinds srcs
sizes-renumbered numbers s t [] named setting = refl
sizes-renumbered numbers s t (src ∷ srcs) named setting =
    λ i. option_map_or (λ kind. kind.width) (setting.kinds src.value named.0 i) W1 ∷ sizes-renumbered numbers s t srcs named.1 setting i

alu_mean-renumbered : (numbers : Numbers) (s t : Setting) (op : Op) (kind : Kind) (srcs : List Src) (f g : Values) → AreNamed numbers srcs → SameSetting numbers s t → SameValues (by_places numbers) f g
    → alu_mean t.kinds op kind (map (new_src numbers) srcs) g ≡ alu_mean s.kinds op kind srcs f
unfolding alu_mean
alu_mean-renumbered numbers s t op kind srcs f g named setting same =
    λ i. view_mean op (width_bits (unsized_width op kind.width (sizes-renumbered numbers s t srcs named setting i))) (width_bits kind.width) kind.count (sources-renumbered numbers srcs f g named same i)

value_of-renumbered : (numbers : Numbers) (s t : Setting) (instr : Instr) (f g : State) → InstrNamed numbers instr → SameSetting numbers s t → SameState (by_places numbers) f g
    → value_of t (new_instr numbers instr) g ≡ value_of s instr f
value_of-renumbered numbers s t (Alu id op kind srcs) f g named setting same = alu_mean-renumbered numbers s t op kind srcs f.values g.values named.read setting same.values
value_of-renumbered numbers s t (Const id kind comps) f g named setting same = refl
value_of-renumbered numbers s t (Undef id kind) f g named setting same = refl
value_of-renumbered numbers s t (Input id kind slot) f g named setting same = ap (λ given. slice_index_or given slot []) setting.given
value_of-renumbered numbers s t (Output effect slot src) f g named setting same = refl
value_of-renumbered numbers s t (LoadBuf id kind buffer offset) f g named setting same =
    λ i. load (same.world i) kind buffer (slice_index (same.values offset.0 named.read.0 i) 0)
value_of-renumbered numbers s t (StoreBuf effect buffer offset src) f g named setting same = refl

world_of-renumbered : (numbers : Numbers) (s t : Setting) (instr : Instr) (f g : State) → InstrNamed numbers instr → SameSetting numbers s t → SameState (by_places numbers) f g
    → world_of t (new_instr numbers instr) g ≡ world_of s instr f
world_of-renumbered numbers s t (Alu id op kind srcs) f g named setting same = same.world
world_of-renumbered numbers s t (Const id kind comps) f g named setting same = same.world
world_of-renumbered numbers s t (Undef id kind) f g named setting same = same.world
world_of-renumbered numbers s t (Input id kind slot) f g named setting same = same.world
world_of-renumbered numbers s t (Output effect slot src) f g named setting same = λ i. put_out slot (same.values src.0 named.read.0 i) (same.world i)
world_of-renumbered numbers s t (LoadBuf id kind buffer offset) f g named setting same = same.world
world_of-renumbered numbers s t (StoreBuf effect buffer offset src) f g named setting same =
    λ i. store (record {
      buffer = buffer;
      offset = slice_index (same.values offset.0 named.read.0 i) 0;
      kind = unwrap_or (setting.kinds src named.read.1.0 i) (record { width = W1; count = 0 });
      comps = same.values src.0 named.read.1.0 i;
    }) (same.world i)

pub run_instrs-renumbered : (numbers : Numbers) (s t : Setting) (instrs : List Instr) (f g : State) → AllByRecursion (InstrNamed numbers) instrs → SameSetting numbers s t → SameState (by_places numbers) f g
    → SameState (by_places numbers) (run_instrs s instrs f) (run_instrs t (map (new_instr numbers) instrs) g)
run_instrs-renumbered numbers s t [] f g named setting same = same
run_instrs-renumbered numbers s t (instr ∷ instrs) f g named setting same =
    run_instrs-renumbered numbers s t instrs (run_instr s instr f) (run_instr t (new_instr numbers instr) g) named.1 setting
    (run_instr-same (by_places numbers) s t instr (new_instr numbers instr) f g (places_apart numbers.naming.values) named.0.defined (target-new_instr numbers instr)
    (value_of-renumbered numbers s t instr f g named.0 setting same)
    (world_of-renumbered numbers s t instr f g named.0 setting same)
    same)
