-- In a shader that defines each value once, each instruction and each phi is the one that defines its value.
use Rattle.std.specs.Prelude.{◌≡◌, refl, false, ◌||◌, nat_eq, List, [], ◌∷◌, ◌++◌, map, Option, Some, None}
use Rattle.std.specs.List.{AllByRecursion, IsDistinct, find, flat_map, list_any}
use Rattle.std.specs.Option.{option_to_list}
use Rattle.std.proofs.Common.{sym, ◌∙◌, ap, subst}
use Rattle.std.proofs.lemmas.Bool.{cond-false, cond-true, eq-eqb, ne_eqb}
use Rattle.list_laws.specs.AllLaws.{all_back, all_each, all_front}
use Rattle.nir_ir.specs.declared.ids.ValueId.{ValueId}
use Rattle.nir_ir.specs.declared.instr.Instr.{Instr}
use Rattle.nir_ir.specs.declared.node.Block.{Block}
use Rattle.nir_ir.specs.declared.node.Phi.{Phi}
use Rattle.nir_ir.specs.Definitions.{instr_of, is_phi_of, is_target, phi_of}
use Rattle.nir_ir.specs.EditsShaped.{is_target-of}
use Rattle.nir_ir.specs.Items.{Item, BlockHead, PhiItem, InstrItem, JumpItem, IfHead, LoopHead, block_items, items, target}
use Rattle.nir_ir.specs.Nodes.{Nodes, Nil, BlockThen, IfThen, LoopThen}
use Rattle.nir_ir.specs.Shaped.{IsOneOf, IsShaped}
use Rattle.nir_ir.specs.Shader.{Shader}
use Rattle.edit_laws.specs.ItemsLaws.{numbers_of, target_numbers}
use Rattle.edit_laws.specs.NumbersLaws.{distinct-apart, distinct-back, distinct-head, one_of-back, one_of-front, one_of-here}

-- an instruction of the list is the one that is found for its value
pub record InstrFound (list : List Item) (instr : Instr) (id : ValueId) : Type 0 where
  pub among : IsOneOf (flat_map numbers_of list) id.0
  pub found : find (is_target id) (flat_map instr_of list) ≡ Some instr

-- a phi of the list is the one that is found for its value, and no instruction is
pub record PhiFound (list : List Item) (phi : Phi) : Type 0 where
  pub among : IsOneOf (flat_map numbers_of list) phi.value.0
  pub none : find (is_target phi.value) (flat_map instr_of list) ≡ None
  pub found : find (is_phi_of phi.value) (flat_map phi_of list) ≡ Some phi

abbrev pub IsFound : List Item → Item → Type 0
IsFound list (BlockHead id) = Unit {0}
IsFound list (PhiItem phi) = PhiFound list phi
IsFound list (InstrItem instr) = (id : ValueId) → target instr ≡ Some id → InstrFound list instr id
IsFound list (JumpItem jump) = Unit {0}
IsFound list (IfHead id condition) = Unit {0}
IsFound list (LoopHead id) = Unit {0}

-- what is not among the numbers is not found
pub aims_not : (found : Option ValueId) (v : ValueId) → (IsOneOf (map (λ id. id.0) (option_to_list found)) v.0 → ⊥) → list_any (λ id. nat_eq id.0 v.0) (option_to_list found) ≡ false
aims_not None v not = refl
aims_not (Some id) v not = ap (λ t. t || false) (ne_eqb id.0 v.0 (λ same. not (subst (λ n. IsOneOf (id.0 ∷ []) n) same (one_of-here id.0 []))))

pub no_target : (list : List Item) (v : ValueId) → (IsOneOf (flat_map numbers_of list) v.0 → ⊥) → find (is_target v) (flat_map instr_of list) ≡ None
no_target [] v not = refl
no_target (BlockHead id ∷ list) v not = no_target list v not
no_target (PhiItem phi ∷ list) v not = no_target list v (λ is. not (one_of-back (phi.value.0 ∷ []) (flat_map numbers_of list) v.0 is))
no_target (InstrItem instr ∷ list) v not =
    cond-false (is_target v instr) (Some instr) (find (is_target v) (flat_map instr_of list)) (aims_not (target instr) v (λ is. not (one_of-front (target_numbers instr) (flat_map numbers_of list) v.0 is)))
    ∙ no_target list v (λ is. not (one_of-back (target_numbers instr) (flat_map numbers_of list) v.0 is))
no_target (JumpItem jump ∷ list) v not = no_target list v not
no_target (IfHead id condition ∷ list) v not = no_target list v not
no_target (LoopHead id ∷ list) v not = no_target list v not

-- one item in front, which defines another value
instr_behind : (first : Item) (list : List Item) (instr : Instr) (id : ValueId) → IsDistinct nat_eq (flat_map numbers_of (first ∷ list)) → InstrFound list instr id → InstrFound (first ∷ list) instr id
instr_behind (BlockHead b) list instr id distinct is = record { among = is.among; found = is.found }
instr_behind (PhiItem phi) list instr id distinct is = record { among = one_of-back (phi.value.0 ∷ []) (flat_map numbers_of list) id.0 is.among; found = is.found }
instr_behind (InstrItem other) list instr id distinct is = record {
  among = one_of-back (target_numbers other) (flat_map numbers_of list) id.0 is.among;
  found = cond-false (is_target id other) (Some other) (find (is_target id) (flat_map instr_of list))
      (aims_not (target other) id (λ own. distinct-apart (target_numbers other) (flat_map numbers_of list) distinct id.0 own is.among))
      ∙ is.found;
}
instr_behind (JumpItem jump) list instr id distinct is = record { among = is.among; found = is.found }
instr_behind (IfHead i condition) list instr id distinct is = record { among = is.among; found = is.found }
instr_behind (LoopHead i) list instr id distinct is = record { among = is.among; found = is.found }

phi_behind : (first : Item) (list : List Item) (phi : Phi) → IsDistinct nat_eq (flat_map numbers_of (first ∷ list)) → PhiFound list phi → PhiFound (first ∷ list) phi
phi_behind (BlockHead b) list phi distinct is = record { among = is.among; none = is.none; found = is.found }
phi_behind (PhiItem other) list phi distinct is = record {
  among = one_of-back (other.value.0 ∷ []) (flat_map numbers_of list) phi.value.0 is.among;
  none = is.none;
  found = cond-false (nat_eq other.value.0 phi.value.0) (Some other) (find (is_phi_of phi.value) (flat_map phi_of list))
      (ne_eqb other.value.0 phi.value.0 (λ same. distinct-head other.value.0 (flat_map numbers_of list) distinct (subst (IsOneOf (flat_map numbers_of list)) (sym same) is.among)))
      ∙ is.found;
}
phi_behind (InstrItem other) list phi distinct is = record {
  among = one_of-back (target_numbers other) (flat_map numbers_of list) phi.value.0 is.among;
  none = cond-false (is_target phi.value other) (Some other) (find (is_target phi.value) (flat_map instr_of list))
      (aims_not (target other) phi.value (λ own. distinct-apart (target_numbers other) (flat_map numbers_of list) distinct phi.value.0 own is.among))
      ∙ is.none;
  found = is.found;
}
phi_behind (JumpItem jump) list phi distinct is = record { among = is.among; none = is.none; found = is.found }
phi_behind (IfHead i condition) list phi distinct is = record { among = is.among; none = is.none; found = is.found }
phi_behind (LoopHead i) list phi distinct is = record { among = is.among; none = is.none; found = is.found }

found_behind : (first : Item) (list : List Item) → IsDistinct nat_eq (flat_map numbers_of (first ∷ list)) → (item : Item) → IsFound list item → IsFound (first ∷ list) item
found_behind first list distinct (BlockHead id) is = tt
found_behind first list distinct (PhiItem phi) is = phi_behind first list phi distinct is
found_behind first list distinct (InstrItem instr) is = λ id aims. instr_behind first list instr id distinct (is id aims)
found_behind first list distinct (JumpItem jump) is = tt
found_behind first list distinct (IfHead id condition) is = tt
found_behind first list distinct (LoopHead id) is = tt

-- the item in front itself
found_here : (first : Item) (list : List Item) → IsDistinct nat_eq (flat_map numbers_of (first ∷ list)) → IsFound (first ∷ list) first
found_here (BlockHead id) list distinct = tt
found_here (PhiItem phi) list distinct = record {
  among = one_of-here phi.value.0 (flat_map numbers_of list);
  none = no_target list phi.value (distinct-head phi.value.0 (flat_map numbers_of list) distinct);
  found = cond-true (nat_eq phi.value.0 phi.value.0) (Some phi) (find (is_phi_of phi.value) (flat_map phi_of list)) (eq-eqb phi.value.0 phi.value.0 refl);
}
found_here (InstrItem instr) list distinct = λ id aims. record {
  among = one_of-front (target_numbers instr) (flat_map numbers_of list) id.0 (subst (λ found. IsOneOf (map (λ (i : ValueId). i.0) (option_to_list found)) id.0) (sym aims) (one_of-here id.0 []));
  found = cond-true (is_target id instr) (Some instr) (find (is_target id) (flat_map instr_of list)) (is_target-of id instr aims);
}
found_here (JumpItem jump) list distinct = tt
found_here (IfHead id condition) list distinct = tt
found_here (LoopHead id) list distinct = tt

numbers_back : (first : Item) (list : List Item) → IsDistinct nat_eq (flat_map numbers_of (first ∷ list)) → IsDistinct nat_eq (flat_map numbers_of list)
numbers_back first list distinct = distinct-back (numbers_of first) (flat_map numbers_of list) distinct

pub all_found : (list : List Item) → IsDistinct nat_eq (flat_map numbers_of list) → AllByRecursion (IsFound list) list
all_found [] distinct = tt
all_found (first ∷ list) distinct = (
  found_here first list distinct,
  all_each (IsFound list) (IsFound (first ∷ list)) (found_behind first list distinct) list (all_found list (numbers_back first list distinct)),
)

pub items_found : (s : Shader) → IsShaped s → AllByRecursion (IsFound (items s.body)) (items s.body)
items_found s shaped = all_found (items s.body) shaped.values

-- ---- a fact of the items of each block

abbrev pub EachBlock : (Block → Type 0) → Nodes → Type 0
EachBlock P Nil = Unit {0}
EachBlock P (BlockThen b rest) = P b × EachBlock P rest
EachBlock P (IfThen id condition first second rest) = EachBlock P first × EachBlock P second × EachBlock P rest
EachBlock P (LoopThen id body rest) = EachBlock P body × EachBlock P rest

pub blocks_have : (P : Item → Type 0) (nodes : Nodes) → AllByRecursion P (items nodes) → EachBlock (λ b. AllByRecursion P (block_items b)) nodes
blocks_have P Nil all = tt
blocks_have P (BlockThen b rest) all = (all_front P (block_items b) (items rest) all, blocks_have P rest (all_back P (block_items b) (items rest) all))
blocks_have P (IfThen id condition first second rest) all =
    let front = all_front P (items first ++ items second) (items rest) all.1 in (
      blocks_have P first (all_front P (items first) (items second) front),
      blocks_have P second (all_back P (items first) (items second) front),
      blocks_have P rest (all_back P (items first ++ items second) (items rest) all.1),
    )
blocks_have P (LoopThen id body rest) all = (blocks_have P body (all_front P (items body) (items rest) all.1), blocks_have P rest (all_back P (items body) (items rest) all.1))

pub phis_have : (P : Item → Type 0) (b : Block) → AllByRecursion P (block_items b) → AllByRecursion (λ phi. P (PhiItem phi)) b.phis
phis_have P b all = of_list b.phis (all_front P (map PhiItem b.phis) (map InstrItem b.instrs) (all_front P (map PhiItem b.phis ++ map InstrItem b.instrs) (map JumpItem (option_to_list b.jump)) all.1)) where
  of_list : (phis : List Phi) → AllByRecursion P (map PhiItem phis) → AllByRecursion (λ phi. P (PhiItem phi)) phis
  of_list [] all = tt
  of_list (phi ∷ phis) all = (all.0, of_list phis all.1)

pub instrs_have : (P : Item → Type 0) (b : Block) → AllByRecursion P (block_items b) → AllByRecursion (λ instr. P (InstrItem instr)) b.instrs
instrs_have P b all = of_list b.instrs (all_back P (map PhiItem b.phis) (map InstrItem b.instrs) (all_front P (map PhiItem b.phis ++ map InstrItem b.instrs) (map JumpItem (option_to_list b.jump)) all.1)) where
  of_list : (instrs : List Instr) → AllByRecursion P (map InstrItem instrs) → AllByRecursion (λ instr. P (InstrItem instr)) instrs
  of_list [] all = tt
  of_list (instr ∷ instrs) all = (all.0, of_list instrs all.1)
