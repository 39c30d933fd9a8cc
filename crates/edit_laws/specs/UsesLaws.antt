-- How often values are used where instructions stand in the place of one; and values that a shader does not have, which nothing defines or uses.
use Rattle.std.specs.Prelude.{◌≡◌, refl, ℕ, ◌+◌, Bool, true, false, cond, nat_eq, List, [], ◌∷◌, ◌++◌, map, Option, Some, None, count_by}
use Rattle.std.specs.List.{AllByRecursion, IsDistinct, find, flat_map}
use Rattle.std.specs.Option.{option_to_list}
use Rattle.std.proofs.Common.{sym, ◌∙◌, ap, subst, append-nil, arith}
use Rattle.std.proofs.lemmas.Bool.{cond-false, cond-true, ne_eqb}
use Rattle.std.proofs.lemmas.List.Folds.{flat_map-map}
use Rattle.std.proofs.lemmas.List.Sums.{sum_by-append}
use Rattle.std.proofs.lemmas.Option.{none-some, same_Some}
use Rattle.list_laws.specs.AllLaws.{all_append, all_back, all_front, all_of_map}
use Rattle.nir_ir.specs.declared.ids.ValueId.{ValueId}
use Rattle.nir_ir.specs.declared.instr.Instr.{Instr}
use Rattle.nir_ir.specs.Definitions.{instr_defining, instr_of, is_phi_of, is_target, phi_defining, phi_of}
use Rattle.nir_ir.specs.Edits.{replaced}
use Rattle.nir_ir.specs.EditsShaped.{given-replaced, item_in_place, target_of}
use Rattle.nir_ir.specs.Items.{Item, BlockHead, PhiItem, InstrItem, JumpItem, IfHead, LoopHead, items, reads, target, uses, values_defined}
use Rattle.nir_ir.specs.Nodes.{Nodes}
use Rattle.nir_ir.specs.Shaped.{IsOneOf, IsShaped}
use Rattle.nir_ir.specs.Shader.{Shader}
use Rattle.nir_ir.specs.Uses.{is_value, use_count}
use Rattle.edit_laws.specs.DefiningLaws.{aims_not, no_target}
use Rattle.edit_laws.specs.ItemsLaws.{numbers_of, target_numbers}
use Rattle.edit_laws.specs.NumbersLaws.{distinct-apart, distinct-back, distinct-tail, one_of-back, one_of-front, one_of-here}

-- ---- values that a shader does not have

pub no_instr : (value : ValueId) (nodes : Nodes) → (IsOneOf (values_defined nodes) value.0 → ⊥) → instr_defining value nodes ≡ None
no_instr value nodes not = no_target (items nodes) value not

no_phi_in : (list : List Item) (v : ValueId) → (IsOneOf (flat_map numbers_of list) v.0 → ⊥) → find (is_phi_of v) (flat_map phi_of list) ≡ None
no_phi_in [] v not = refl
no_phi_in (BlockHead id ∷ list) v not = no_phi_in list v not
no_phi_in (PhiItem phi ∷ list) v not =
    cond-false (nat_eq phi.value.0 v.0) (Some phi) (find (is_phi_of v) (flat_map phi_of list))
    (ne_eqb phi.value.0 v.0 (λ same. not (subst (IsOneOf (phi.value.0 ∷ flat_map numbers_of list)) same (one_of-here phi.value.0 (flat_map numbers_of list)))))
    ∙ no_phi_in list v (λ is. not (one_of-back (phi.value.0 ∷ []) (flat_map numbers_of list) v.0 is))
no_phi_in (InstrItem instr ∷ list) v not = no_phi_in list v (λ is. not (one_of-back (target_numbers instr) (flat_map numbers_of list) v.0 is))
no_phi_in (JumpItem jump ∷ list) v not = no_phi_in list v not
no_phi_in (IfHead id condition ∷ list) v not = no_phi_in list v not
no_phi_in (LoopHead id ∷ list) v not = no_phi_in list v not

pub no_phi : (value : ValueId) (nodes : Nodes) → (IsOneOf (values_defined nodes) value.0 → ⊥) → phi_defining value nodes ≡ None
no_phi value nodes not = no_phi_in (items nodes) value not

-- what holds of the numbers that are used holds of the values
used_all : (P : ℕ → Type 0) (list : List Item) → AllByRecursion P (flat_map (λ item. map (λ id. id.0) (uses item)) list) → AllByRecursion (λ (id : ValueId). P id.0) (flat_map uses list)
used_all P [] all = tt
used_all P (item ∷ list) all =
    let numbers : Item → List ℕ = λ i. map (λ id. id.0) (uses i) in
    all_append (λ (id : ValueId). P id.0) (uses item) (flat_map uses list)
    (all_of_map (λ (id : ValueId). id.0) P (uses item) (all_front P (numbers item) (flat_map numbers list) all))
    (used_all P list (all_back P (numbers item) (flat_map numbers list) all))

count_none : (value : ValueId) (defined : List ℕ) → (IsOneOf defined value.0 → ⊥) → (list : List ValueId) → AllByRecursion (λ id. IsOneOf defined id.0) list → count_by (is_value value) list ≡ 0
count_none value defined not [] all = refl
count_none value defined not (id ∷ list) all =
    sum_by-append (λ a. cond (is_value value a) 1 0) (id ∷ []) list
    ∙ ap (λ here. (0 + cond here 1 0) + count_by (is_value value) list) (ne_eqb id.0 value.0 (λ same. not (subst (IsOneOf defined) same all.0)))
    ∙ ap (λ n. 0 + n) (count_none value defined not list all.1)

pub no_use : (s : Shader) (value : ValueId) → IsShaped s → (IsOneOf (values_defined s.body) value.0 → ⊥) → use_count value s.body ≡ 0
no_use s value shaped not = count_none value (values_defined s.body) not (flat_map uses (items s.body)) (used_all (IsOneOf (values_defined s.body)) (items s.body) shaped.uses)

-- ---- the uses where instructions stand in the place of one

abbrev times : ValueId → List ValueId → ℕ
times used list = count_by (is_value used) list

abbrev in_place : ValueId → List Instr → Item → List ValueId
in_place value news item = flat_map uses (item_in_place value news item)

times-append : (used : ValueId) (first second : List ValueId) → times used (first ++ second) ≡ times used first + times used second
times-append used first second = sum_by-append (λ a. cond (is_value used a) 1 0) first second

sums : (x f a b m n l r : ℕ) → x ≡ f → l ≡ x + a → r ≡ f + b → a + m ≡ b + n → l + m ≡ r + n
sums x f a b m n l r same left right h = omega (arith, same, left, right, h)

-- an item in front that stays
stays : (used : ValueId) (first a b : List ValueId) (m n : ℕ) → times used a + m ≡ times used b + n → times used ((first ++ []) ++ a) + m ≡ times used (first ++ b) + n
stays used first a b m n h =
    sums (times used (first ++ [])) (times used first) (times used a) (times used b) m n (times used ((first ++ []) ++ a)) (times used (first ++ b))
    (ap (times used) (append-nil first)) (times-append used (first ++ []) a) (times-append used first b) h

-- where nothing defines the value all stays
unplaced : (value : ValueId) (news : List Instr) (list : List Item) → (IsOneOf (flat_map numbers_of list) value.0 → ⊥) → flat_map (in_place value news) list ≡ flat_map uses list
unplaced value news [] not = refl
unplaced value news (BlockHead id ∷ list) not = unplaced value news list not
unplaced value news (PhiItem phi ∷ list) not =
    ap (λ t. t ++ flat_map (in_place value news) list) (append-nil (uses (PhiItem phi)))
    ∙ ap (λ t. uses (PhiItem phi) ++ t) (unplaced value news list (λ is. not (one_of-back (phi.value.0 ∷ []) (flat_map numbers_of list) value.0 is)))
unplaced value news (InstrItem instr ∷ list) not =
    ap (λ here. flat_map uses (map InstrItem (cond here news (instr ∷ []))) ++ flat_map (in_place value news) list)
    (aims_not (target instr) value (λ is. not (one_of-front (target_numbers instr) (flat_map numbers_of list) value.0 is)))
    ∙ ap (λ t. t ++ flat_map (in_place value news) list) (append-nil (reads instr))
    ∙ ap (λ t. reads instr ++ t) (unplaced value news list (λ is. not (one_of-back (target_numbers instr) (flat_map numbers_of list) value.0 is)))
unplaced value news (JumpItem jump ∷ list) not = unplaced value news list not
unplaced value news (IfHead id condition ∷ list) not = ap (λ t. condition ∷ t) (unplaced value news list not)
unplaced value news (LoopHead id ∷ list) not = unplaced value news list not

swapped_sums : (x a b f g l r : ℕ) → x ≡ f → a ≡ b → l ≡ x + a → r ≡ g + b → l + g ≡ r + f
swapped_sums x a b f g l r same others left right = omega (arith, same, others, left, right)

among : (value used : ValueId) (old : Instr) (news : List Instr) (list : List Item) → IsDistinct nat_eq (flat_map numbers_of list) → find (is_target value) (flat_map instr_of list) ≡ Some old
    → times used (flat_map (in_place value news) list) + times used (reads old) ≡ times used (flat_map uses list) + times used (flat_map reads news)
among value used old news [] distinct found = absurd (none-some old found)
among value used old news (BlockHead id ∷ list) distinct found = among value used old news list distinct found
among value used old news (PhiItem phi ∷ list) distinct found =
    stays used (uses (PhiItem phi)) (flat_map (in_place value news) list) (flat_map uses list) (times used (reads old)) (times used (flat_map reads news))
    (among value used old news list (distinct-tail phi.value.0 (flat_map numbers_of list) distinct) found)
among value used old news (InstrItem instr ∷ list) distinct found =
    by_test (is_target value instr) refl (among value used old news list (distinct-back (target_numbers instr) (flat_map numbers_of list) distinct))
  where
    by_test : (here : Bool) → is_target value instr ≡ here
        → (find (is_target value) (flat_map instr_of list) ≡ Some old → times used (flat_map (in_place value news) list) + times used (reads old) ≡ times used (flat_map uses list) + times used (flat_map reads news))
        → times used (flat_map uses (map InstrItem (cond (is_target value instr) news (instr ∷ []))) ++ flat_map (in_place value news) list) + times used (reads old) ≡ times used (reads instr ++ flat_map uses list) + times used (flat_map reads news)
    by_test true is rest =
        let same : instr ≡ old = same_Some instr old (sym (cond-true (is_target value instr) (Some instr) (find (is_target value) (flat_map instr_of list)) is) ∙ found) in
        let own : IsOneOf (target_numbers instr) value.0 = subst (λ found. IsOneOf (map (λ (id : ValueId). id.0) (option_to_list found)) value.0) (sym (target_of value instr is)) (one_of-here value.0 []) in
        ap (λ here. times used (flat_map uses (map InstrItem (cond here news (instr ∷ []))) ++ flat_map (in_place value news) list) + times used (reads old)) is
        ∙ ap (λ i. times used (flat_map uses (map InstrItem news) ++ flat_map (in_place value news) list) + times used (reads i)) (sym same)
        ∙ swapped_sums (times used (flat_map uses (map InstrItem news))) (times used (flat_map (in_place value news) list)) (times used (flat_map uses list)) (times used (flat_map reads news)) (times used (reads instr))
        (times used (flat_map uses (map InstrItem news) ++ flat_map (in_place value news) list)) (times used (reads instr ++ flat_map uses list))
        (ap (times used) (flat_map-map uses InstrItem news))
        (ap (times used) (unplaced value news list (λ there. distinct-apart (target_numbers instr) (flat_map numbers_of list) distinct value.0 own there)))
        (times-append used (flat_map uses (map InstrItem news)) (flat_map (in_place value news) list))
        (times-append used (reads instr) (flat_map uses list))
    by_test false is rest =
        ap (λ here. times used (flat_map uses (map InstrItem (cond here news (instr ∷ []))) ++ flat_map (in_place value news) list) + times used (reads old)) is
        ∙ stays used (reads instr) (flat_map (in_place value news) list) (flat_map uses list) (times used (reads old)) (times used (flat_map reads news))
        (rest (sym (cond-false (is_target value instr) (Some instr) (find (is_target value) (flat_map instr_of list)) is) ∙ found))
among value used old news (JumpItem jump ∷ list) distinct found = among value used old news list distinct found
among value used old news (IfHead id condition ∷ list) distinct found =
    stays used (condition ∷ []) (flat_map (in_place value news) list) (flat_map uses list) (times used (reads old)) (times used (flat_map reads news))
    (among value used old news list distinct found)
among value used old news (LoopHead id ∷ list) distinct found = among value used old news list distinct found

-- what the old instruction read is used less, and what the new ones read is used more
pub uses_placed : (value used : ValueId) (old : Instr) (news : List Instr) (nodes : Nodes) → IsDistinct nat_eq (values_defined nodes) → instr_defining value nodes ≡ Some old
    → use_count used (replaced value news nodes) + count_by (is_value used) (reads old) ≡ use_count used nodes + count_by (is_value used) (flat_map reads news)
uses_placed value used old news nodes distinct found =
    ap (λ t. times used t + times used (reads old)) (given-replaced uses value news nodes)
    ∙ among value used old news (items nodes) distinct found
