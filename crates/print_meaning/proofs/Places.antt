-- Members of a list and their places, and the kinds of the values of a renumbered shader.
use Rattle.std.specs.Prelude.{◌≡◌, refl, ℕ, suc, ◌+◌, ◌<◌, Bool, true, false, cond, nat_eq, not, ◌||◌, List, [], ◌∷◌, map, length, slice_index, Option, Some, None}
use Rattle.std.specs.List.{AllByRecursion, find, flat_map, list_any}
use Rattle.std.specs.Option.{option_and_then, option_map, option_or, option_to_list}
use Rattle.std.proofs.Common.{sym, ◌∙◌, ap, arith}
use Rattle.std.proofs.lemmas.Bool.{eq-eqb, eqb-false, eqb-true, ne_eqb, or_right, true≢false}
use Rattle.nir_ir.specs.declared.ids.ValueId.{ValueId}
use Rattle.nir_ir.specs.declared.instr.Instr.{Instr}
use Rattle.nir_ir.specs.declared.instr.Instr.TheVariants.{Alu, Const, Undef, Input, Output, LoadBuf, StoreBuf}
use Rattle.nir_ir.specs.declared.node.Phi.{Phi}
use Rattle.nir_ir.specs.Definitions.{instr_defining, instr_of, instrs, is_phi_of, is_target, kind_at, kind_of_target, phi_defining, phi_of, phis}
use Rattle.nir_ir.specs.Items.{Item, BlockHead, PhiItem, InstrItem, JumpItem, IfHead, LoopHead, defines, items, target, values_defined}
use Rattle.nir_ir.specs.Nodes.{Nodes}
use Rattle.nir_ir.specs.Shaped.{IsOneOf}
use Rattle.nir_mean.specs.Points.{or_other}
use Rattle.list_laws.specs.AllLaws.{all_back, all_front}
use Rattle.nir_print.specs.Naming.{place}
use Rattle.nir_print.specs.Renumber.{Numbers, new_instr, new_nodes, new_phi, new_value, numbers_of}
use Rattle.nir_print.specs.RenumberedItems.{given-new_nodes, new_item}
use Rattle.list_laws.specs.AllLaws.{all_each}

-- ---- members and their places

place-here : (x n : ℕ) (list : List ℕ) → nat_eq n x ≡ true → place (x ∷ list) n ≡ 0
place-here x n list e = ap (λ b. cond (not b) (1 + place list n) 0) e

place-later : (x n : ℕ) (list : List ℕ) → nat_eq n x ≡ false → place (x ∷ list) n ≡ suc (place list n)
place-later x n list e = let next : 1 + place list n ≡ suc (place list n) = omega arith in ap (λ b. cond (not b) (1 + place list n) 0) e ∙ next

-- all of a list are members of it
pub all_members : (list : List ℕ) → AllByRecursion (IsOneOf list) list
all_members [] = tt
all_members (x ∷ list) = (
  ap (λ b. b || list_any (nat_eq x) list) (eq-eqb x x refl),
  all_each (IsOneOf list) (IsOneOf (x ∷ list)) (λ n is. or_right (nat_eq n x) (list_any (nat_eq n) list) is) list (all_members list),
)

-- the place of a member is one of the list's
pub place-below : (list : List ℕ) (n : ℕ) → IsOneOf list n → place list n < length list
place-below [] n is = absurd (true≢false (sym is))
place-below (x ∷ list) n is = by (nat_eq n x) refl (place-below list n) where
  by : (test : Bool) → nat_eq n x ≡ test → (IsOneOf list n → place list n < length list) → place (x ∷ list) n < length (x ∷ list)
  by true e rest = let here : place (x ∷ list) n ≡ 0 = place-here x n list e in omega arith
  by false e rest =
      let later : place (x ∷ list) n ≡ suc (place list n) = place-later x n list e in
      let below : place list n < length list = rest (or_other (nat_eq n x) (list_any (nat_eq n) list) e is) in
      omega arith

-- and the member stands there
pub place-at : (list : List ℕ) (n : ℕ) → IsOneOf list n → slice_index list (place list n) ≡ n
place-at [] n is = absurd (true≢false (sym is))
place-at (x ∷ list) n is = by (nat_eq n x) refl (place-at list n) where
  by : (test : Bool) → nat_eq n x ≡ test → (IsOneOf list n → slice_index list (place list n) ≡ n) → slice_index (x ∷ list) (place (x ∷ list) n) ≡ n
  by true e rest = ap (slice_index (x ∷ list)) (place-here x n list e) ∙ sym (eqb-true n x e)
  by false e rest = ap (slice_index (x ∷ list)) (place-later x n list e) ∙ rest (or_other (nat_eq n x) (list_any (nat_eq n) list) e is)

-- so members are one where their places are one
pub place-injective : (list : List ℕ) (m n : ℕ) → IsOneOf list m → IsOneOf list n → place list m ≡ place list n → m ≡ n
place-injective list m n is_first is_second same = sym (place-at list m is_first) ∙ ap (slice_index list) same ∙ place-at list n is_second

pub place-same : (list : List ℕ) (m n : ℕ) → IsOneOf list m → IsOneOf list n → nat_eq (place list m) (place list n) ≡ nat_eq m n
place-same list m n is_first is_second = by (nat_eq m n) refl where
  by : (test : Bool) → nat_eq m n ≡ test → nat_eq (place list m) (place list n) ≡ test
  by true e = eq-eqb (place list m) (place list n) (ap (place list) (eqb-true m n e))
  by false e = ne_eqb (place list m) (place list n) (λ same. eqb-false m n e (place-injective list m n is_first is_second same))

-- ---- what is found under other numbers

pub find_renamed : {A B : Type 0} (rename : A → B) (test : A → Bool) (other : B → Bool) (list : List A) → AllByRecursion (λ a. other (rename a) ≡ test a) list
    → find other (map rename list) ≡ option_map rename (find test list)
find_renamed rename test other [] all = refl
find_renamed rename test other (a ∷ list) all =
    ap (λ b. cond b (Some (rename a)) (find other (map rename list))) all.0 ∙ by (test a) (find_renamed rename test other list all.1)
  where
    by : (b : Bool) → find other (map rename list) ≡ option_map rename (find test list)
        → cond b (Some (rename a)) (find other (map rename list)) ≡ option_map rename (cond b (Some a) (find test list))
    by true rest = refl
    by false rest = rest

-- ---- the instructions and the phis of a renumbered shader

pub target-new_instr : (numbers : Numbers) (instr : Instr) → target (new_instr numbers instr) ≡ option_map (new_value numbers) (target instr)
target-new_instr numbers (Alu value op kind srcs) = refl
target-new_instr numbers (Const value kind comps) = refl
target-new_instr numbers (Undef value kind) = refl
target-new_instr numbers (Input value kind slot) = refl
target-new_instr numbers (Output effect slot src) = refl
target-new_instr numbers (LoadBuf value kind buffer offset) = refl
target-new_instr numbers (StoreBuf effect buffer offset src) = refl

kind-new_instr : (numbers : Numbers) (instr : Instr) → kind_of_target (new_instr numbers instr) ≡ kind_of_target instr
kind-new_instr numbers (Alu value op kind srcs) = refl
kind-new_instr numbers (Const value kind comps) = refl
kind-new_instr numbers (Undef value kind) = refl
kind-new_instr numbers (Input value kind slot) = refl
kind-new_instr numbers (Output effect slot src) = refl
kind-new_instr numbers (LoadBuf value kind buffer offset) = refl
kind-new_instr numbers (StoreBuf effect buffer offset src) = refl

instr_of-new_item : (numbers : Numbers) (item : Item) → instr_of (new_item numbers item) ≡ map (new_instr numbers) (instr_of item)
instr_of-new_item numbers (BlockHead id) = refl
instr_of-new_item numbers (PhiItem phi) = refl
instr_of-new_item numbers (InstrItem instr) = refl
instr_of-new_item numbers (JumpItem jump) = refl
instr_of-new_item numbers (IfHead id cond) = refl
instr_of-new_item numbers (LoopHead id) = refl

phi_of-new_item : (numbers : Numbers) (item : Item) → phi_of (new_item numbers item) ≡ map (new_phi numbers) (phi_of item)
phi_of-new_item numbers (BlockHead id) = refl
phi_of-new_item numbers (PhiItem phi) = refl
phi_of-new_item numbers (InstrItem instr) = refl
phi_of-new_item numbers (JumpItem jump) = refl
phi_of-new_item numbers (IfHead id cond) = refl
phi_of-new_item numbers (LoopHead id) = refl

pub instrs-new_nodes : (numbers : Numbers) (nodes : Nodes) → instrs (new_nodes numbers nodes) ≡ map (new_instr numbers) (instrs nodes)
instrs-new_nodes numbers nodes = given-new_nodes instr_of instr_of (new_instr numbers) numbers (instr_of-new_item numbers) nodes

pub phis-new_nodes : (numbers : Numbers) (nodes : Nodes) → phis (new_nodes numbers nodes) ≡ map (new_phi numbers) (phis nodes)
phis-new_nodes numbers nodes = given-new_nodes phi_of phi_of (new_phi numbers) numbers (phi_of-new_item numbers) nodes

-- what holds of all values that are defined holds of what each instruction, and each phi, defines
pub all_targets : (P : ℕ → Type 0) (list : List Item) → AllByRecursion P (flat_map (λ item. map (λ id. id.0) (defines item)) list)
    → AllByRecursion (λ instr. AllByRecursion P (map (λ id. id.0) (option_to_list (target instr)))) (flat_map instr_of list)
all_targets P [] all = tt
all_targets P (BlockHead id ∷ list) all = all_targets P list all
all_targets P (PhiItem phi ∷ list) all = all_targets P list all.1
all_targets P (InstrItem instr ∷ list) all =
    let here : List ℕ = map (λ id. id.0) (option_to_list (target instr)) in
    let behind : List ℕ = flat_map (λ item. map (λ id. id.0) (defines item)) list in
    (all_front P here behind all, all_targets P list (all_back P here behind all))
all_targets P (JumpItem jump ∷ list) all = all_targets P list all
all_targets P (IfHead id cond ∷ list) all = all_targets P list all
all_targets P (LoopHead id ∷ list) all = all_targets P list all

pub all_phis : (P : ℕ → Type 0) (list : List Item) → AllByRecursion P (flat_map (λ item. map (λ id. id.0) (defines item)) list)
    → AllByRecursion (λ phi. P phi.value.0) (flat_map phi_of list)
all_phis P [] all = tt
all_phis P (BlockHead id ∷ list) all = all_phis P list all
all_phis P (PhiItem phi ∷ list) all = (all.0, all_phis P list all.1)
all_phis P (InstrItem instr ∷ list) all =
    all_phis P list (all_back P (map (λ id. id.0) (option_to_list (target instr))) (flat_map (λ item. map (λ id. id.0) (defines item)) list) all)
all_phis P (JumpItem jump ∷ list) all = all_phis P list all
all_phis P (IfHead id cond ∷ list) all = all_phis P list all
all_phis P (LoopHead id ∷ list) all = all_phis P list all

-- an instruction defines the new number just where it defined the old one
pub is_target-renamed : (numbers : Numbers) (value : ValueId) (instr : Instr) → IsOneOf numbers.naming.values value.0
    → AllByRecursion (IsOneOf numbers.naming.values) (map (λ id. id.0) (option_to_list (target instr)))
    → is_target (new_value numbers value) (new_instr numbers instr) ≡ is_target value instr
is_target-renamed numbers value instr is all =
    ap (λ found. list_any (λ id. nat_eq id.0 (new_value numbers value).0) (option_to_list found)) (target-new_instr numbers instr) ∙ by (target instr) all
  where
    by : (found : Option ValueId) → AllByRecursion (IsOneOf numbers.naming.values) (map (λ id. id.0) (option_to_list found))
        → list_any (λ id. nat_eq id.0 (new_value numbers value).0) (option_to_list (option_map (new_value numbers) found)) ≡ list_any (λ id. nat_eq id.0 value.0) (option_to_list found)
    by None all = refl
    by (Some id) all = ap (λ b. b || false) (place-same numbers.naming.values id.0 value.0 all.0 is)

-- ---- the kinds of values

pub instr_defining-new_nodes : (numbers : Numbers) (nodes : Nodes) (value : ValueId) → AllByRecursion (IsOneOf numbers.naming.values) (values_defined nodes) → IsOneOf numbers.naming.values value.0
    → instr_defining (new_value numbers value) (new_nodes numbers nodes) ≡ option_map (new_instr numbers) (instr_defining value nodes)
instr_defining-new_nodes numbers nodes value all is =
    ap (find (is_target (new_value numbers value))) (instrs-new_nodes numbers nodes)
    ∙ find_renamed (new_instr numbers) (is_target value) (is_target (new_value numbers value)) (instrs nodes)
    (all_each (λ instr. AllByRecursion (IsOneOf numbers.naming.values) (map (λ id. id.0) (option_to_list (target instr))))
    (λ instr. is_target (new_value numbers value) (new_instr numbers instr) ≡ is_target value instr)
    (λ instr targets. is_target-renamed numbers value instr is targets)
    (instrs nodes)
    (all_targets (IsOneOf numbers.naming.values) (items nodes) all))

pub phi_defining-new_nodes : (numbers : Numbers) (nodes : Nodes) (value : ValueId) → AllByRecursion (IsOneOf numbers.naming.values) (values_defined nodes) → IsOneOf numbers.naming.values value.0
    → phi_defining (new_value numbers value) (new_nodes numbers nodes) ≡ option_map (new_phi numbers) (phi_defining value nodes)
phi_defining-new_nodes numbers nodes value all is =
    ap (find (is_phi_of (new_value numbers value))) (phis-new_nodes numbers nodes)
    ∙ find_renamed (new_phi numbers) (is_phi_of value) (is_phi_of (new_value numbers value)) (phis nodes)
    (all_each (λ phi. IsOneOf numbers.naming.values phi.value.0)
    (λ phi. is_phi_of (new_value numbers value) (new_phi numbers phi) ≡ is_phi_of value phi)
    (λ phi defined. place-same numbers.naming.values phi.value.0 value.0 defined is)
    (phis nodes)
    (all_phis (IsOneOf numbers.naming.values) (items nodes) all))

-- a value has its kind under its new number
pub kind_at-new_nodes : (numbers : Numbers) (nodes : Nodes) (value : ValueId) → AllByRecursion (IsOneOf numbers.naming.values) (values_defined nodes) → IsOneOf numbers.naming.values value.0
    → kind_at (new_nodes numbers nodes) (new_value numbers value) ≡ kind_at nodes value
kind_at-new_nodes numbers nodes value all is =
    λ i. option_or
    ((ap (option_and_then kind_of_target) (instr_defining-new_nodes numbers nodes value all is) ∙ by_instr (instr_defining value nodes)) i)
    ((ap (option_map (λ phi. phi.kind)) (phi_defining-new_nodes numbers nodes value all is) ∙ by_phi (phi_defining value nodes)) i)
  where
    by_instr : (found : Option Instr) → option_and_then kind_of_target (option_map (new_instr numbers) found) ≡ option_and_then kind_of_target found
    by_instr None = refl
    by_instr (Some instr) = kind-new_instr numbers instr

    by_phi : (found : Option Phi) → option_map (λ phi. phi.kind) (option_map (new_phi numbers) found) ≡ option_map (λ phi. phi.kind) found
    by_phi None = refl
    by_phi (Some phi) = refl

pub kind_at-renumbered : (body : Nodes) (value : ValueId) → IsOneOf (values_defined body) value.0
    → kind_at (new_nodes (numbers_of body) body) (new_value (numbers_of body) value) ≡ kind_at body value
kind_at-renumbered body value is = kind_at-new_nodes (numbers_of body) body value (all_members (values_defined body)) is
