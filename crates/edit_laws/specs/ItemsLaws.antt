-- The items of a list in which instructions stand in the place of one: what they give, define and use.
use Rattle.std.specs.Prelude.{◌≡◌, refl, ℕ, Bool, true, false, ◌||◌, nat_eq, cond, List, [], ◌∷◌, ◌++◌, map, Option, Some, None}
use Rattle.std.specs.List.{AllByRecursion, IsDistinct, find, flat_map, list_any}
use Rattle.std.specs.Option.{option_to_list}
use Rattle.std.proofs.Common.{sym, ◌∙◌, ap, subst, append-nil}
use Rattle.std.proofs.lemmas.Bool.{cond-false, cond-true, eq-eqb, ne_eqb}
use Rattle.std.proofs.lemmas.Option.{none-some}
use Rattle.list_laws.specs.AllLaws.{all_append, all_back, all_front}
use Rattle.list_laws.specs.MapLaws.{flat_map-flat_map, flat_map-same}
use Rattle.nir_ir.specs.declared.ids.ValueId.{ValueId}
use Rattle.nir_ir.specs.declared.instr.Instr.{Instr}
use Rattle.nir_ir.specs.Definitions.{instr_defining, instr_of, is_target}
use Rattle.nir_ir.specs.Edits.{in_place_of, replaced}
use Rattle.nir_ir.specs.EditsShaped.{given-replaced, item_in_place, target_of}
use Rattle.nir_ir.specs.Items.{Item, BlockHead, PhiItem, InstrItem, JumpItem, IfHead, LoopHead, blocks_defined, blocks_named, blocks_of, defines, ifs_defined, ifs_of, items, loops_defined, loops_of, names_blocks, target, values_defined}
use Rattle.nir_ir.specs.Nodes.{Nodes}
use Rattle.nir_ir.specs.Shaped.{IsOneOf}
use Rattle.edit_laws.specs.NumbersLaws.{distinct-back, distinct-head, distinct-tail, given_way, one_of-back, one_of-front, one_of-here}

abbrev pub numbers_of : Item → List ℕ
numbers_of item = map (λ id. id.0) (defines item)

abbrev pub target_numbers : Instr → List ℕ
target_numbers instr = map (λ id. id.0) (option_to_list (target instr))

-- ---- what holds of all that is given, and of what each of the new instructions gives, holds of all that is given then

in_items : {A : Type 0} (P : A → Type 0) (gives : Item → List A) (news : List Instr) → AllByRecursion (λ new. AllByRecursion P (gives (InstrItem new))) news → AllByRecursion P (flat_map gives (map InstrItem news))
in_items P gives [] all = tt
in_items P gives (new ∷ news) all = all_append P (gives (InstrItem new)) (flat_map gives (map InstrItem news)) all.0 (in_items P gives news all.1)

pub all_given : {A : Type 0} (P : A → Type 0) (gives : Item → List A) (value : ValueId) (news : List Instr) → AllByRecursion (λ new. AllByRecursion P (gives (InstrItem new))) news
    → (nodes : Nodes) → AllByRecursion P (flat_map gives (items nodes)) → AllByRecursion P (flat_map gives (items (replaced value news nodes)))
all_given {A} P gives value news here nodes h = subst (AllByRecursion P) (sym (given-replaced gives value news nodes)) (along (items nodes) h) where
  instr_in_place : (old : Instr) (found : Bool) → AllByRecursion P (gives (InstrItem old)) → AllByRecursion P (flat_map gives (map InstrItem (cond found news (old ∷ []))))
  instr_in_place old true g = in_items P gives news here
  instr_in_place old false g = all_append P (gives (InstrItem old)) [] g tt

  in_place : (item : Item) → AllByRecursion P (gives item) → AllByRecursion P (flat_map gives (item_in_place value news item))
  in_place (BlockHead id) g = all_append P (gives (BlockHead id)) [] g tt
  in_place (PhiItem phi) g = all_append P (gives (PhiItem phi)) [] g tt
  in_place (InstrItem old) g = instr_in_place old (is_target value old) g
  in_place (JumpItem jump) g = all_append P (gives (JumpItem jump)) [] g tt
  in_place (IfHead id condition) g = all_append P (gives (IfHead id condition)) [] g tt
  in_place (LoopHead id) g = all_append P (gives (LoopHead id)) [] g tt

  along : (list : List Item) → AllByRecursion P (flat_map gives list) → AllByRecursion P (flat_map (λ item. flat_map gives (item_in_place value news item)) list)
  along [] g = tt
  along (item ∷ list) g =
      all_append P (flat_map gives (item_in_place value news item)) (flat_map (λ i. flat_map gives (item_in_place value news i)) list)
      (in_place item (all_front P (gives item) (flat_map gives list) g))
      (along list (all_back P (gives item) (flat_map gives list) g))

-- ---- what neither the old instruction nor the new ones give stays as it was

nothing_given : {A : Type 0} (gives : Item → List A) (news : List Instr) → AllByRecursion (λ new. gives (InstrItem new) ≡ []) news → flat_map gives (map InstrItem news) ≡ []
nothing_given gives [] none = refl
nothing_given gives (new ∷ news) none = ap (λ t. t ++ flat_map gives (map InstrItem news)) none.0 ∙ nothing_given gives news none.1

pub given-still : {A : Type 0} (gives : Item → List A) (value : ValueId) (news : List Instr) → AllByRecursion (λ new. gives (InstrItem new) ≡ []) news → ((old : Instr) → is_target value old ≡ true → gives (InstrItem old) ≡ [])
    → (nodes : Nodes) → flat_map gives (items (replaced value news nodes)) ≡ flat_map gives (items nodes)
given-still {A} gives value news none before nodes = given-replaced gives value news nodes ∙ flat_map-same (λ item. flat_map gives (item_in_place value news item)) gives item_same (items nodes) where
  instr_same : (old : Instr) (found : Bool) → is_target value old ≡ found → flat_map gives (map InstrItem (cond found news (old ∷ []))) ≡ gives (InstrItem old)
  instr_same old true is = nothing_given gives news none ∙ sym (before old is)
  instr_same old false is = append-nil (gives (InstrItem old))

  item_same : (item : Item) → flat_map gives (item_in_place value news item) ≡ gives item
  item_same (BlockHead id) = append-nil (gives (BlockHead id))
  item_same (PhiItem phi) = append-nil (gives (PhiItem phi))
  item_same (InstrItem old) = instr_same old (is_target value old) refl
  item_same (JumpItem jump) = append-nil (gives (JumpItem jump))
  item_same (IfHead id condition) = append-nil (gives (IfHead id condition))
  item_same (LoopHead id) = append-nil (gives (LoopHead id))

nothing_of : {A : Type 0} (gives : Instr → List A) → ((instr : Instr) → gives instr ≡ []) → (news : List Instr) → AllByRecursion (λ new. gives new ≡ []) news
nothing_of gives none [] = tt
nothing_of gives none (new ∷ news) = (none new, nothing_of gives none news)

-- what no instruction gives stays as it was
pub given-apart : {A : Type 0} (gives : Item → List A) (value : ValueId) (news : List Instr) → ((instr : Instr) → gives (InstrItem instr) ≡ []) → (nodes : Nodes) → flat_map gives (items (replaced value news nodes)) ≡ flat_map gives (items nodes)
given-apart gives value news none nodes = given-still gives value news (nothing_of (λ instr. gives (InstrItem instr)) none news) (λ old is. none old) nodes

-- ---- the numbers: that of the value gives way to those of the new instructions

-- an instruction defines the value, and so no phi does
abbrev pub IsNoPhiOf : ValueId → Item → Type 0
IsNoPhiOf value (BlockHead id) = Unit {0}
IsNoPhiOf value (PhiItem phi) = phi.value.0 ≡ value.0 → ⊥
IsNoPhiOf value (InstrItem instr) = Unit {0}
IsNoPhiOf value (JumpItem jump) = Unit {0}
IsNoPhiOf value (IfHead id condition) = Unit {0}
IsNoPhiOf value (LoopHead id) = Unit {0}

no_phi_left : (value : ValueId) (list : List Item) → (IsOneOf (flat_map numbers_of list) value.0 → ⊥) → AllByRecursion (IsNoPhiOf value) list
no_phi_left value [] not = tt
no_phi_left value (BlockHead id ∷ list) not = (tt, no_phi_left value list not)
no_phi_left value (PhiItem phi ∷ list) not = (
  (λ same. not (subst (IsOneOf (phi.value.0 ∷ flat_map numbers_of list)) same (one_of-here phi.value.0 (flat_map numbers_of list)))),
  no_phi_left value list (λ is. not (one_of-back (phi.value.0 ∷ []) (flat_map numbers_of list) value.0 is)),
)
no_phi_left value (InstrItem instr ∷ list) not = (tt, no_phi_left value list (λ is. not (one_of-back (target_numbers instr) (flat_map numbers_of list) value.0 is)))
no_phi_left value (JumpItem jump ∷ list) not = (tt, no_phi_left value list not)
no_phi_left value (IfHead id condition ∷ list) not = (tt, no_phi_left value list not)
no_phi_left value (LoopHead id ∷ list) not = (tt, no_phi_left value list not)

targets_value : (value : ValueId) (instr : Instr) → is_target value instr ≡ true → IsOneOf (target_numbers instr) value.0
targets_value value instr is = subst (λ found. IsOneOf (map (λ (id : ValueId). id.0) (option_to_list found)) value.0) (sym (target_of value instr is)) (one_of-here value.0 [])

found_among : (value : ValueId) (old : Instr) (list : List Item) → find (is_target value) (flat_map instr_of list) ≡ Some old → IsOneOf (flat_map numbers_of list) value.0
found_among value old [] found = absurd (none-some old found)
found_among value old (BlockHead id ∷ list) found = found_among value old list found
found_among value old (PhiItem phi ∷ list) found = one_of-back (phi.value.0 ∷ []) (flat_map numbers_of list) value.0 (found_among value old list found)
found_among value old (InstrItem instr ∷ list) found = by_test (is_target value instr) refl (found_among value old list) where
  by_test : (here : Bool) → is_target value instr ≡ here → (find (is_target value) (flat_map instr_of list) ≡ Some old → IsOneOf (flat_map numbers_of list) value.0) → IsOneOf (target_numbers instr ++ flat_map numbers_of list) value.0
  by_test true is rest = one_of-front (target_numbers instr) (flat_map numbers_of list) value.0 (targets_value value instr is)
  by_test false is rest =
      one_of-back (target_numbers instr) (flat_map numbers_of list) value.0
      (rest (sym (cond-false (is_target value instr) (Some instr) (find (is_target value) (flat_map instr_of list)) is) ∙ found))
found_among value old (JumpItem jump ∷ list) found = found_among value old list found
found_among value old (IfHead id condition ∷ list) found = found_among value old list found
found_among value old (LoopHead id ∷ list) found = found_among value old list found

pub value_defined : (value : ValueId) (old : Instr) (nodes : Nodes) → instr_defining value nodes ≡ Some old → IsOneOf (values_defined nodes) value.0
value_defined value old nodes found = found_among value old (items nodes) found

no_phi : (value : ValueId) (old : Instr) (list : List Item) → IsDistinct nat_eq (flat_map numbers_of list) → find (is_target value) (flat_map instr_of list) ≡ Some old → AllByRecursion (IsNoPhiOf value) list
no_phi value old [] distinct found = tt
no_phi value old (BlockHead id ∷ list) distinct found = (tt, no_phi value old list distinct found)
no_phi value old (PhiItem phi ∷ list) distinct found = (
  (λ same. distinct-head phi.value.0 (flat_map numbers_of list) distinct (subst (IsOneOf (flat_map numbers_of list)) (sym same) (found_among value old list found))),
  no_phi value old list (distinct-tail phi.value.0 (flat_map numbers_of list) distinct) found,
)
no_phi value old (InstrItem instr ∷ list) distinct found =
    by_test (is_target value instr) refl (no_phi value old list (distinct-back (target_numbers instr) (flat_map numbers_of list) distinct)) where
      by_test : (here : Bool) → is_target value instr ≡ here → (find (is_target value) (flat_map instr_of list) ≡ Some old → AllByRecursion (IsNoPhiOf value) list) → AllByRecursion (IsNoPhiOf value) (InstrItem instr ∷ list)
      by_test true is rest =
          let numbers : target_numbers instr ≡ value.0 ∷ [] = ap (λ found. map (λ (id : ValueId). id.0) (option_to_list found)) (target_of value instr is) in
          (tt, no_phi_left value list (distinct-head value.0 (flat_map numbers_of list) (subst (λ list_of. IsDistinct nat_eq (list_of ++ flat_map numbers_of list)) numbers distinct)))
      by_test false is rest = (tt, rest (sym (cond-false (is_target value instr) (Some instr) (find (is_target value) (flat_map instr_of list)) is) ∙ found))
no_phi value old (JumpItem jump ∷ list) distinct found = (tt, no_phi value old list distinct found)
no_phi value old (IfHead id condition ∷ list) distinct found = (tt, no_phi value old list distinct found)
no_phi value old (LoopHead id ∷ list) distinct found = (tt, no_phi value old list distinct found)

numbers_in : (news : List Instr) → flat_map numbers_of (map InstrItem news) ≡ flat_map target_numbers news
numbers_in [] = refl
numbers_in (new ∷ news) = ap (λ t. target_numbers new ++ t) (numbers_in news)

instr_gives : (value : ValueId) (news : List Instr) (old : Instr) → flat_map numbers_of (map InstrItem (in_place_of value news old)) ≡ flat_map (given_way value.0 (flat_map target_numbers news)) (target_numbers old)
instr_gives value news old = by_target (target old) refl (is_target value old) refl where
  by_target : (found : Option ValueId) → target old ≡ found → (test : Bool) → is_target value old ≡ test
      → flat_map numbers_of (map InstrItem (cond (is_target value old) news (old ∷ []))) ≡ flat_map (given_way value.0 (flat_map target_numbers news)) (map (λ (id : ValueId). id.0) (option_to_list (target old)))
  by_target found aims true is =
      let ids : target old ≡ Some value = target_of value old is in
      ap (λ list. flat_map numbers_of (map InstrItem list)) (cond-true (is_target value old) news (old ∷ []) is)
      ∙ numbers_in news
      ∙ sym (append-nil (flat_map target_numbers news))
      ∙ ap (λ t. t ++ []) (sym (cond-true (nat_eq value.0 value.0) (flat_map target_numbers news) (value.0 ∷ []) (eq-eqb value.0 value.0 refl)))
      ∙ ap (λ found. flat_map (given_way value.0 (flat_map target_numbers news)) (map (λ (id : ValueId). id.0) (option_to_list found))) (sym ids)
  by_target None aims false is =
      ap (λ list. flat_map numbers_of (map InstrItem list)) (cond-false (is_target value old) news (old ∷ []) is)
      ∙ ap (λ found. map (λ (id : ValueId). id.0) (option_to_list found) ++ []) aims
      ∙ ap (λ found. flat_map (given_way value.0 (flat_map target_numbers news)) (map (λ (id : ValueId). id.0) (option_to_list found))) (sym aims)
  by_target (Some id) aims false is =
      ap (λ list. flat_map numbers_of (map InstrItem list)) (cond-false (is_target value old) news (old ∷ []) is)
      ∙ ap (λ found. map (λ (id : ValueId). id.0) (option_to_list found) ++ []) aims
      ∙ ap (λ t. t ++ []) (sym (cond-false (nat_eq id.0 value.0) (flat_map target_numbers news) (id.0 ∷ []) (other id aims is)))
      ∙ ap (λ found. flat_map (given_way value.0 (flat_map target_numbers news)) (map (λ (id : ValueId). id.0) (option_to_list found))) (sym aims)
    where
      other : (id : ValueId) → target old ≡ Some id → is_target value old ≡ false → nat_eq id.0 value.0 ≡ false
      other id aims is = first (nat_eq id.0 value.0) (sym (ap (λ found. list_any (λ (i : ValueId). nat_eq i.0 value.0) (option_to_list found)) aims) ∙ is) where
        first : (test : Bool) → (test || false) ≡ false → test ≡ false
        first true h = h
        first false h = h

item_gives : (value : ValueId) (news : List Instr) (item : Item) → IsNoPhiOf value item → flat_map numbers_of (item_in_place value news item) ≡ flat_map (given_way value.0 (flat_map target_numbers news)) (numbers_of item)
item_gives value news (BlockHead id) apart = refl
item_gives value news (PhiItem phi) apart = ap (λ t. t ++ []) (sym (cond-false (nat_eq phi.value.0 value.0) (flat_map target_numbers news) (phi.value.0 ∷ []) (ne_eqb phi.value.0 value.0 apart)))
item_gives value news (InstrItem instr) apart = instr_gives value news instr
item_gives value news (JumpItem jump) apart = refl
item_gives value news (IfHead id condition) apart = refl
item_gives value news (LoopHead id) apart = refl

items_give : (value : ValueId) (news : List Instr) (list : List Item) → AllByRecursion (IsNoPhiOf value) list
    → flat_map (λ item. flat_map numbers_of (item_in_place value news item)) list ≡ flat_map (λ item. flat_map (given_way value.0 (flat_map target_numbers news)) (numbers_of item)) list
items_give value news [] all = refl
items_give value news (item ∷ list) all =
    ap (λ t. t ++ flat_map (λ i. flat_map numbers_of (item_in_place value news i)) list) (item_gives value news item all.0)
    ∙ ap (λ t. flat_map (given_way value.0 (flat_map target_numbers news)) (numbers_of item) ++ t) (items_give value news list all.1)

pub values_defined-placed : (value : ValueId) (old : Instr) (news : List Instr) (nodes : Nodes) → IsDistinct nat_eq (values_defined nodes) → instr_defining value nodes ≡ Some old
    → values_defined (replaced value news nodes) ≡ flat_map (given_way value.0 (flat_map target_numbers news)) (values_defined nodes)
values_defined-placed value old news nodes distinct found =
    given-replaced numbers_of value news nodes
    ∙ items_give value news (items nodes) (no_phi value old (items nodes) distinct found)
    ∙ sym (flat_map-flat_map numbers_of (given_way value.0 (flat_map target_numbers news)) (items nodes))

pub blocks_defined-placed : (value : ValueId) (news : List Instr) (nodes : Nodes) → blocks_defined (replaced value news nodes) ≡ blocks_defined nodes
blocks_defined-placed value news nodes = given-apart (λ item. map (λ id. id.0) (blocks_of item)) value news (λ _. refl) nodes

pub blocks_named-placed : (value : ValueId) (news : List Instr) (nodes : Nodes) → blocks_named (replaced value news nodes) ≡ blocks_named nodes
blocks_named-placed value news nodes = given-apart (λ item. map (λ id. id.0) (names_blocks item)) value news (λ _. refl) nodes

pub ifs_defined-placed : (value : ValueId) (news : List Instr) (nodes : Nodes) → ifs_defined (replaced value news nodes) ≡ ifs_defined nodes
ifs_defined-placed value news nodes = given-apart (λ item. map (λ id. id.0) (ifs_of item)) value news (λ _. refl) nodes

pub loops_defined-placed : (value : ValueId) (news : List Instr) (nodes : Nodes) → loops_defined (replaced value news nodes) ≡ loops_defined nodes
loops_defined-placed value news nodes = given-apart (λ item. map (λ id. id.0) (loops_of item)) value news (λ _. refl) nodes
