-- What is known of an instruction or phi that is found in a shaped shader.
use Rattle.std.specs.Prelude.{◌≡◌, refl, ◌<◌, ◌≤◌, ◌^◌, ℕ, List, [], ◌∷◌, Option, Some, None, Bool, true, false, ◌||◌, cond, IsTrue, nat_eq}
use Rattle.std.proofs.Common.{sym, ◌∙◌, ap, subst, arith}
use Rattle.std.proofs.lemmas.Option.{none-some, same_Some}
use Rattle.std.proofs.lemmas.Bool.{eqb-true, true≢false}
use Rattle.std.specs.List.{AllByRecursion, find, flat_map}
use Rattle.std.specs.Option.{option_and_then, option_map, option_map_or, option_or}
use Rattle.list_laws.specs.OptionLaws.{between}
use Rattle.nir_ops.specs.declared.op.Op.{Op}
use Rattle.nir_ops.specs.declared.width.Width.TheVariants.{W1}
use Rattle.nir_ops.specs.Width.{width_bits}
use Rattle.nir_ir.specs.declared.ids.ValueId.{ValueId}
use Rattle.nir_ir.specs.declared.kind.Kind.{Kind}
use Rattle.nir_ir.specs.declared.instr.Instr.{Instr}
use Rattle.nir_ir.specs.declared.instr.Instr.TheVariants.{Alu, Const, Undef, Input, Output, LoadBuf, StoreBuf}
use Rattle.nir_ir.specs.declared.instr.Src.{Src}
use Rattle.nir_ir.specs.declared.node.Phi.{Phi}
use Rattle.nir_ir.specs.Items.{Item, BlockHead, PhiItem, InstrItem, JumpItem, IfHead, LoopHead, items}
use Rattle.nir_ir.specs.Definitions.{alu_of, const_at, const_of, instr_defining, instr_of, is_phi_of, is_target, kind_at, kind_of_target, phi_defining, phi_of, width_at}
use Rattle.nir_ir.specs.Shader.{Shader}
use Rattle.nir_ir.specs.Shaped.{IsCount, IsShaped, IsShapedInstr, IsShapedItem, IsShapedPhi}

-- what is found is one of the list
found_first : {A : Type 0} (P : A → Type 0) (a : A) (more : Option A) (x : A) → P a → (more ≡ Some x → P x) → (here : Bool) → cond here (Some a) more ≡ Some x → P x
found_first P a more x first others true e = subst P (same_Some a x e) first
found_first P a more x first others false e = others e

pub found_all : {A : Type 0} (P : A → Type 0) (test : A → Bool) (list : List A) (x : A) → AllByRecursion P list → find test list ≡ Some x → P x
found_all P test [] x all found = absurd (none-some x found)
found_all P test (a ∷ list) x all found = found_first P a (find test list) x all.0 (found_all P test list x all.1) (test a) found

-- the instructions of shaped items are shaped
all_instrs : (list : List Item) → AllByRecursion IsShapedItem list → AllByRecursion IsShapedInstr (flat_map instr_of list)
all_instrs [] all = tt
all_instrs (BlockHead id ∷ list) all = all_instrs list all.1
all_instrs (PhiItem phi ∷ list) all = all_instrs list all.1
all_instrs (InstrItem instr ∷ list) all = (all.0, all_instrs list all.1)
all_instrs (JumpItem jump ∷ list) all = all_instrs list all.1
all_instrs (IfHead id condition ∷ list) all = all_instrs list all.1
all_instrs (LoopHead id ∷ list) all = all_instrs list all.1

pub found_shaped : (s : Shader) → IsShaped s → (value : ValueId) (instr : Instr) → instr_defining value s.body ≡ Some instr → IsShapedInstr instr
found_shaped s shaped value instr found = found_all IsShapedInstr (is_target value) (flat_map instr_of (items s.body)) instr (all_instrs (items s.body) shaped.items) found

-- what an instruction with an opcode is, and what a const is
pub record AluOf (instr : Instr) (alu : Op × List Src) : Type 0 where
  pub id : ValueId
  pub kind : Kind
  pub is : instr ≡ Alu id alu.0 kind alu.1

pub alu_is : (instr : Instr) (alu : Op × List Src) → alu_of instr ≡ Some alu → AluOf instr alu
alu_is (Alu id op kind srcs) alu h =
    record { id = id; kind = kind; is = ap (λ (pair : Op × List Src). Alu id pair.0 kind pair.1) (same_Some (op, srcs) alu h) }
alu_is (Const id kind comps) alu h = absurd (none-some alu h)
alu_is (Undef id kind) alu h = absurd (none-some alu h)
alu_is (Input id kind slot) alu h = absurd (none-some alu h)
alu_is (Output effect slot src) alu h = absurd (none-some alu h)
alu_is (LoadBuf id kind buffer offset) alu h = absurd (none-some alu h)
alu_is (StoreBuf effect buffer offset src) alu h = absurd (none-some alu h)

pub record ConstOf (instr : Instr) (comps : List ℕ) : Type 0 where
  pub id : ValueId
  pub kind : Kind
  pub is : instr ≡ Const id kind comps

pub const_is : (instr : Instr) (comps : List ℕ) → const_of instr ≡ Some comps → ConstOf instr comps
const_is (Alu id op kind srcs) comps h = absurd (none-some comps h)
const_is (Const id kind list) comps h = record { id = id; kind = kind; is = ap (Const id kind) (same_Some list comps h) }
const_is (Undef id kind) comps h = absurd (none-some comps h)
const_is (Input id kind slot) comps h = absurd (none-some comps h)
const_is (Output effect slot src) comps h = absurd (none-some comps h)
const_is (LoadBuf id kind buffer offset) comps h = absurd (none-some comps h)
const_is (StoreBuf effect buffer offset src) comps h = absurd (none-some comps h)

-- the components of a const are words of its bit size
const_found : (s : Shader) → IsShaped s → (value : ValueId) (comps : List ℕ) (others : Option Kind)
    → option_and_then const_of (instr_defining value s.body) ≡ Some comps
    → AllByRecursion (λ comp. comp < 2 ^ width_bits (option_map_or (λ kind. kind.width) (option_or (option_and_then kind_of_target (instr_defining value s.body)) others) W1)) comps
const_found s shaped value comps others h =
    let found = between (instr_defining value s.body) const_of comps h in
    let const = const_is found.middle comps found.behind in
    let is : instr_defining value s.body ≡ Some (Const const.id const.kind comps) = found.before ∙ ap Some const.is in
    subst (λ (instr : Option Instr). AllByRecursion (λ comp. comp < 2 ^ width_bits (option_map_or (λ kind. kind.width) (option_or (option_and_then kind_of_target instr) others) W1)) comps) (sym is)
    (found_shaped s shaped value (Const const.id const.kind comps) is).1.words

pub const_words : (s : Shader) → IsShaped s → (value : ValueId) (comps : List ℕ) → const_at s.body value ≡ Some comps → AllByRecursion (λ comp. comp < 2 ^ width_bits (width_at s.body value)) comps
const_words s shaped value comps h = const_found s shaped value comps (option_map (λ phi. phi.kind) (phi_defining value s.body)) h

-- the phis of shaped items are shaped
all_phis : (list : List Item) → AllByRecursion IsShapedItem list → AllByRecursion IsShapedPhi (flat_map phi_of list)
all_phis [] all = tt
all_phis (BlockHead id ∷ list) all = all_phis list all.1
all_phis (PhiItem phi ∷ list) all = (all.0, all_phis list all.1)
all_phis (InstrItem instr ∷ list) all = all_phis list all.1
all_phis (JumpItem jump ∷ list) all = all_phis list all.1
all_phis (IfHead id condition ∷ list) all = all_phis list all.1
all_phis (LoopHead id ∷ list) all = all_phis list all.1

pub found_phi_shaped : (s : Shader) → IsShaped s → (value : ValueId) (phi : Phi) → phi_defining value s.body ≡ Some phi → IsShapedPhi phi
found_phi_shaped s shaped value phi found = found_all IsShapedPhi (is_phi_of value) (flat_map phi_of (items s.body)) phi (all_phis (items s.body) shaped.items) found

-- a number of components is at most 4
one_of_four : (n : ℕ) (a b c d : Bool) → nat_eq n 1 ≡ a → nat_eq n 2 ≡ b → nat_eq n 3 ≡ c → nat_eq n 4 ≡ d → IsTrue (a || (b || (c || (d || false)))) → n ≤ 4
one_of_four n true b c d ea eb ec ed h = subst (λ m. m ≤ 4) (sym (eqb-true n 1 ea)) (omega arith)
one_of_four n false true c d ea eb ec ed h = subst (λ m. m ≤ 4) (sym (eqb-true n 2 eb)) (omega arith)
one_of_four n false false true d ea eb ec ed h = subst (λ m. m ≤ 4) (sym (eqb-true n 3 ec)) (omega arith)
one_of_four n false false false true ea eb ec ed h = subst (λ m. m ≤ 4) (sym (eqb-true n 4 ed)) (omega arith)
one_of_four n false false false false ea eb ec ed h = absurd (true≢false (sym h))

pub count_most : (n : ℕ) → IsCount n → n ≤ 4
count_most n h = one_of_four n (nat_eq n 1) (nat_eq n 2) (nat_eq n 3) (nat_eq n 4) refl refl refl refl h

-- a kind has at most 4 components
phi_count : (s : Shader) → IsShaped s → (value : ValueId) (found : Option Phi) → phi_defining value s.body ≡ found
    → option_map_or (λ kind. kind.count) (option_map (λ phi. phi.kind) found) 0 ≤ 4
phi_count s shaped value None is = omega arith
phi_count s shaped value (Some phi) is = count_most phi.kind.count (found_phi_shaped s shaped value phi is).0

instr_count : (s : Shader) → IsShaped s → (value : ValueId) (found : Option Instr) → instr_defining value s.body ≡ found
    → option_map_or (λ kind. kind.count) (option_or (option_and_then kind_of_target found) (option_map (λ phi. phi.kind) (phi_defining value s.body))) 0 ≤ 4
instr_count s shaped value None is = phi_count s shaped value (phi_defining value s.body) refl
instr_count s shaped value (Some (Alu id op kind srcs)) is = count_most kind.count (found_shaped s shaped value (Alu id op kind srcs) is).0
instr_count s shaped value (Some (Const id kind list)) is = count_most kind.count (found_shaped s shaped value (Const id kind list) is).0
instr_count s shaped value (Some (Undef id kind)) is = count_most kind.count (found_shaped s shaped value (Undef id kind) is)
instr_count s shaped value (Some (Input id kind slot)) is = count_most kind.count (found_shaped s shaped value (Input id kind slot) is)
instr_count s shaped value (Some (Output effect slot src)) is = phi_count s shaped value (phi_defining value s.body) refl
instr_count s shaped value (Some (LoadBuf id kind buffer offset)) is = count_most kind.count (found_shaped s shaped value (LoadBuf id kind buffer offset) is)
instr_count s shaped value (Some (StoreBuf effect buffer offset src)) is = phi_count s shaped value (phi_defining value s.body) refl

pub few_components : (s : Shader) → IsShaped s → (value : ValueId) → option_map_or (λ kind. kind.count) (kind_at s.body value) 0 ≤ 4
few_components s shaped value = instr_count s shaped value (instr_defining value s.body) refl
