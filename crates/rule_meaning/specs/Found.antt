-- What is found in a shaped shader is shaped, and reads what the shader defines.
use Rattle.std.specs.Prelude.{◌≡◌, refl, ℕ, List, [], ◌∷◌, map, Option, Some, None}
use Rattle.std.proofs.Common.{◌∙◌, ap}
use Rattle.std.proofs.lemmas.Option.{none-some, same_Some}
use Rattle.std.specs.List.{AllByRecursion, flat_map}
use Rattle.std.specs.Option.{option_and_then}
use Rattle.list_laws.specs.AllLaws.{all_back, all_front}
use Rattle.nir_ops.specs.declared.op.Op.{Op}
use Rattle.nir_ir.specs.declared.ids.ValueId.{ValueId}
use Rattle.nir_ir.specs.declared.kind.Kind.{Kind}
use Rattle.nir_ir.specs.declared.instr.Src.{Src}
use Rattle.nir_ir.specs.declared.instr.Instr.{Instr}
use Rattle.nir_ir.specs.declared.instr.Instr.TheVariants.{Alu, Const, Undef, Input, Output, LoadBuf, StoreBuf}
use Rattle.nir_ir.specs.Items.{Item, BlockHead, PhiItem, InstrItem, JumpItem, IfHead, LoopHead, items, reads, uses, values_defined}
use Rattle.nir_ir.specs.Definitions.{alu_at, alu_of, instr_of, instr_defining, is_target}
use Rattle.nir_ir.specs.Found.{found_all}
use Rattle.nir_ir.specs.Nodes.{Nodes}
use Rattle.nir_ir.specs.Shader.{Shader}
use Rattle.nir_ir.specs.Shaped.{IsOneOf, IsShaped, IsShapedInstr, IsShapedItem}

-- shaped, and what it reads is one of those values
abbrev pub IsSound : List ℕ → Instr → Type 0
IsSound defined instr = IsShapedInstr instr × AllByRecursion (IsOneOf defined) (map (λ id. id.0) (reads instr))

abbrev used : Item → List ℕ
used item = map (λ id. id.0) (uses item)

all_sound : (defined : List ℕ) (list : List Item) → AllByRecursion IsShapedItem list → AllByRecursion (IsOneOf defined) (flat_map used list) → AllByRecursion (IsSound defined) (flat_map instr_of list)
all_sound defined [] shaped all = tt
all_sound defined (BlockHead id ∷ list) shaped all = all_sound defined list shaped.1 all
all_sound defined (PhiItem phi ∷ list) shaped all = all_sound defined list shaped.1 (all_back (IsOneOf defined) (used (PhiItem phi)) (flat_map used list) all)
all_sound defined (InstrItem instr ∷ list) shaped all = (
  (shaped.0, all_front (IsOneOf defined) (used (InstrItem instr)) (flat_map used list) all),
  all_sound defined list shaped.1 (all_back (IsOneOf defined) (used (InstrItem instr)) (flat_map used list) all),
)
all_sound defined (JumpItem jump ∷ list) shaped all = all_sound defined list shaped.1 all
all_sound defined (IfHead id condition ∷ list) shaped all = all_sound defined list shaped.1 all.1
all_sound defined (LoopHead id ∷ list) shaped all = all_sound defined list shaped.1 all

pub found_sound : (s : Shader) → IsShaped s → (value : ValueId) (instr : Instr) → instr_defining value s.body ≡ Some instr → IsSound (values_defined s.body) instr
found_sound s shaped value instr found =
    found_all (IsSound (values_defined s.body)) (is_target value) (flat_map instr_of (items s.body)) instr (all_sound (values_defined s.body) (items s.body) shaped.items shaped.uses) found

-- the instruction behind an opcode and sources
pub record FoundAlu (body : Nodes) (value : ValueId) (alu : Op × List Src) : Type 0 where
  pub id : ValueId
  pub kind : Kind
  pub is : instr_defining value body ≡ Some (Alu id alu.0 kind alu.1)

alu_in : (body : Nodes) (value : ValueId) (alu : Op × List Src) (found : Option Instr) → instr_defining value body ≡ found → option_and_then alu_of found ≡ Some alu → FoundAlu body value alu
alu_in body value alu None is h = absurd (none-some alu h)
alu_in body value alu (Some (Alu id op kind srcs)) is h =
    let same : (op, srcs) ≡ alu = same_Some (op, srcs) alu h in
    record { id = id; kind = kind; is = is ∙ ap (λ pair. Some (Alu id pair.0 kind pair.1)) same }
alu_in body value alu (Some (Const id kind comps)) is h = absurd (none-some alu h)
alu_in body value alu (Some (Undef id kind)) is h = absurd (none-some alu h)
alu_in body value alu (Some (Input id kind slot)) is h = absurd (none-some alu h)
alu_in body value alu (Some (Output effect slot src)) is h = absurd (none-some alu h)
alu_in body value alu (Some (LoadBuf id kind buffer offset)) is h = absurd (none-some alu h)
alu_in body value alu (Some (StoreBuf effect buffer offset src)) is h = absurd (none-some alu h)

pub found_alu : (body : Nodes) (value : ValueId) (alu : Op × List Src) → alu_at body value ≡ Some alu → FoundAlu body value alu
found_alu body value alu h = alu_in body value alu (instr_defining value body) refl h
