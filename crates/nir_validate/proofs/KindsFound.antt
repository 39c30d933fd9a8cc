-- A table that was filled from a shaped body tells the kind of each value.
use Rattle.std.specs.Prelude.{◌≡◌, refl, ℕ, ◌<◌, ◌≤◌, Bool, true, false, nat_eq, nat_lt, ◌||◌, List, [], ◌∷◌, ◌++◌, length, map, replicate, Option, Some, None, slice_set, find}
use Rattle.std.proofs.Common.{sym, ◌∙◌, ap, subst, arith}
use Rattle.std.proofs.lemmas.Bool.{cond-true, cond-false, eqb-true, eqb-false, ne_eqb}
use borrow.Author.Tests.{ltb-true, ltb-false}
use Rattle.std.proofs.lemmas.Grind.{get_or-set_at}
use Rattle.std.proofs.lemmas.List.{get_or-set_other, get_or-replicate, length-replicate}
use Rattle.std.proofs.Math.ListN.{length-set, get_or-eq_default}
use Rattle.std.proofs.lemmas.Map.Keys.{IsDistinct-head, IsDistinct-tail}
use Rattle.std.specs.Option.{option_or, option_map, option_and_then, option_to_list}
use Rattle.std.specs.List.{IsDistinct, AllByRecursion, flat_map, list_any}
use Rattle.nir_ir.specs.declared.ids.ValueId.{ValueId}
use Rattle.nir_ir.specs.declared.kind.Kind.{Kind}
use Rattle.nir_ir.specs.Definitions.{kind_at, kind_of_target, instr_of, phi_of, is_phi_of, is_target}
use Rattle.nir_ir.specs.Items.{Item, BlockHead, PhiItem, InstrItem, JumpItem, IfHead, LoopHead, items, target, defines}
use Rattle.nir_ir.specs.declared.instr.Instr.{Instr}
use Rattle.nir_ir.specs.declared.instr.Instr.TheVariants.{Alu, Const, Undef, Input, Output, LoadBuf, StoreBuf}
use Rattle.nir_ir.specs.declared.node.Phi.{Phi}
use Rattle.nir_ir.specs.Nodes.{Nodes}
use Rattle.nir_ir.specs.Shaped.{IsShaped}
use Rattle.nir_ir.specs.Shader.{Shader}
use Rattle.nir_validate.specs.Rules.{Kinds}
use Rattle.nir_validate.specs.KindTable.{kinds_in, told, told_all, told_in, told_pair}
use Rattle.std.proofs.Math.Bool.{or-false}
use Rattle.list_laws.specs.OptionLaws.{option_or-none}

-- the kind that the items of a list give a value, by its instruction and by its phi
abbrev pub kind_by_instr : List Item → Kinds
kind_by_instr list value = option_and_then kind_of_target (find (is_target value) (flat_map instr_of list))

abbrev pub kind_by_phi : List Item → Kinds
kind_by_phi list value = option_map (λ phi. phi.kind) (find (is_phi_of value) (flat_map phi_of list))

abbrev pub kind_among : List Item → Kinds
kind_among list value = option_or (kind_by_instr list value) (kind_by_phi list value)

-- the numbers that the items of a list define
abbrev pub numbers : List Item → List ℕ
numbers list = flat_map (λ item. map (λ id. id.0) (defines item)) list

-- a table keeps its length
told_pair-length : (id : Option ValueId) (kind : Option Kind) (table : List (Option Kind)) → length (told_pair id kind table) ≡ length table
told_pair-length None kind table = refl
told_pair-length (Some id) None table = refl
told_pair-length (Some id) (Some kind) table = length-set table id.0 (Some kind)

told_item-length : (item : Item) (table : List (Option Kind)) → length (told item table) ≡ length table
told_item-length (BlockHead id) table = refl
told_item-length (PhiItem phi) table = length-set table phi.value.0 (Some phi.kind)
told_item-length (InstrItem instr) table = told_pair-length (target instr) (kind_of_target instr) table
told_item-length (JumpItem jump) table = refl
told_item-length (IfHead id condition) table = refl
told_item-length (LoopHead id) table = refl

pub told-length : (list : List Item) (table : List (Option Kind)) → length (told_all list table) ≡ length table
told-length [] table = refl
told-length (item ∷ list) table = told-length list (told item table) ∙ told_item-length item table

-- a value that is not defined among the items has no kind
turned : (a b : ℕ) → nat_eq a b ≡ false → nat_eq b a ≡ false
turned a b h = ne_eqb b a (λ e. eqb-false a b h (sym e))

AbsentFrom : ValueId → List Item → Type 0
AbsentFrom value list = AllByRecursion (λ n. nat_eq value.0 n ≡ false) (numbers list)

passes_by : {A : Type 0} (test : A → Bool) (a : A) (list : List A) → test a ≡ false → find test (a ∷ list) ≡ find test list
passes_by test a list is = cond-false (test a) (Some a) (find test list) is

stops_at : {A : Type 0} (test : A → Bool) (a : A) (list : List A) → test a ≡ true → find test (a ∷ list) ≡ Some a
stops_at test a list is = cond-true (test a) (Some a) (find test list) is

-- none of them where the numbers of an item's definition and of the rest are others
absent_target : (value : ValueId) (found : Option ValueId) (rest : List ℕ) → AllByRecursion (λ n. nat_eq value.0 n ≡ false) (map (λ id. id.0) (option_to_list found) ++ rest)
    → (list_any (λ id. nat_eq id.0 value.0) (option_to_list found) ≡ false) × AllByRecursion (λ n. nat_eq value.0 n ≡ false) rest
absent_target value None rest h = (refl, h)
absent_target value (Some id) rest h = (ap (λ test. test || false) (turned value.0 id.0 h.0), h.1)

absent_instr : (value : ValueId) (list : List Item) → AbsentFrom value list → find (is_target value) (flat_map instr_of list) ≡ None
unfolding AbsentFrom
absent_instr value [] h = refl
absent_instr value (BlockHead id ∷ list) h = absent_instr value list h
absent_instr value (PhiItem phi ∷ list) h = absent_instr value list h.1
absent_instr value (InstrItem instr ∷ list) h =
    let parts = absent_target value (target instr) (numbers list) h in
    passes_by (is_target value) instr (flat_map instr_of list) parts.0 ∙ absent_instr value list parts.1
absent_instr value (JumpItem jump ∷ list) h = absent_instr value list h
absent_instr value (IfHead id condition ∷ list) h = absent_instr value list h
absent_instr value (LoopHead id ∷ list) h = absent_instr value list h

absent_phi : (value : ValueId) (list : List Item) → AbsentFrom value list → find (is_phi_of value) (flat_map phi_of list) ≡ None
unfolding AbsentFrom
absent_phi value [] h = refl
absent_phi value (BlockHead id ∷ list) h = absent_phi value list h
absent_phi value (PhiItem phi ∷ list) h = passes_by (is_phi_of value) phi (flat_map phi_of list) (turned value.0 phi.value.0 h.0) ∙ absent_phi value list h.1
absent_phi value (InstrItem instr ∷ list) h = absent_phi value list (absent_target value (target instr) (numbers list) h).1
absent_phi value (JumpItem jump ∷ list) h = absent_phi value list h
absent_phi value (IfHead id condition ∷ list) h = absent_phi value list h
absent_phi value (LoopHead id ∷ list) h = absent_phi value list h

-- what a table says after a kind was told
read_told : (table : List (Option Kind)) (id value : ValueId) (kind : Kind) → id.0 ≡ value.0 → value.0 < length table → kinds_in (slice_set table id.0 (Some kind)) value ≡ Some kind
read_told table id value kind same within = get_or-set_at table id.0 value.0 (Some kind) None (sym same) (subst (λ n. n < length table) (sym same) within)

read_other : (table : List (Option Kind)) (id value : ValueId) (kind : Kind) → nat_eq id.0 value.0 ≡ false → kinds_in (slice_set table id.0 (Some kind)) value ≡ kinds_in table value
read_other table id value kind other = get_or-set_other table id.0 value.0 (Some kind) None (λ e. eqb-false id.0 value.0 other (sym e))

-- an item before others: an instruction that defines a value, and a phi
instr_before : (value id : ValueId) (kind : Kind) (instr : Instr) (list : List Item) (table : List (Option Kind))
    → target instr ≡ Some id → kind_of_target instr ≡ Some kind → AllByRecursion (λ n. nat_eq id.0 n ≡ false) (numbers list) → value.0 < length table
    → option_or (kind_among list value) (kinds_in (slice_set table id.0 (Some kind)) value) ≡ option_or (kind_among (InstrItem instr ∷ list) value) (kinds_in table value)
unfolding AbsentFrom
instr_before value id kind instr list table aims told_kind apart within = by_test (nat_eq id.0 value.0) refl
  where
    tested : (test : Bool) → nat_eq id.0 value.0 ≡ test → is_target value instr ≡ test
    tested test is = ap (λ found. list_any (λ (v : ValueId). nat_eq v.0 value.0) (option_to_list found)) aims ∙ or-false (nat_eq id.0 value.0) ∙ is

    by_test : (test : Bool) → nat_eq id.0 value.0 ≡ test → option_or (kind_among list value) (kinds_in (slice_set table id.0 (Some kind)) value) ≡ option_or (kind_among (InstrItem instr ∷ list) value) (kinds_in table value)
    by_test true is =
        let same : id.0 ≡ value.0 = eqb-true id.0 value.0 is in
        let absent : AbsentFrom value list = subst (λ m. AllByRecursion (λ n. nat_eq m n ≡ false) (numbers list)) same apart in
        ap (λ f. option_or (option_or (option_and_then kind_of_target f) (kind_by_phi list value)) (kinds_in (slice_set table id.0 (Some kind)) value)) (absent_instr value list absent)
        ∙ ap (λ f. option_or (option_map (λ (phi : Phi). phi.kind) f) (kinds_in (slice_set table id.0 (Some kind)) value)) (absent_phi value list absent)
        ∙ read_told table id value kind same within
        ∙ sym (ap (λ f. option_or (option_or (option_and_then kind_of_target f) (kind_by_phi list value)) (kinds_in table value)) (stops_at (is_target value) instr (flat_map instr_of list) (tested true is))
        ∙ ap (λ k. option_or (option_or k (kind_by_phi list value)) (kinds_in table value)) told_kind)
    by_test false is =
        ap (option_or (kind_among list value)) (read_other table id value kind is)
        ∙ sym (ap (λ f. option_or (option_or (option_and_then kind_of_target f) (kind_by_phi list value)) (kinds_in table value)) (passes_by (is_target value) instr (flat_map instr_of list) (tested false is)))

phi_before : (value : ValueId) (phi : Phi) (list : List Item) (table : List (Option Kind))
    → AllByRecursion (λ n. nat_eq phi.value.0 n ≡ false) (numbers list) → value.0 < length table
    → option_or (kind_among list value) (kinds_in (slice_set table phi.value.0 (Some phi.kind)) value) ≡ option_or (kind_among (PhiItem phi ∷ list) value) (kinds_in table value)
unfolding AbsentFrom
phi_before value phi list table apart within = by_test (nat_eq phi.value.0 value.0) refl
  where
    by_test : (test : Bool) → nat_eq phi.value.0 value.0 ≡ test → option_or (kind_among list value) (kinds_in (slice_set table phi.value.0 (Some phi.kind)) value) ≡ option_or (kind_among (PhiItem phi ∷ list) value) (kinds_in table value)
    by_test true is =
        let same : phi.value.0 ≡ value.0 = eqb-true phi.value.0 value.0 is in
        let absent : AbsentFrom value list = subst (λ m. AllByRecursion (λ n. nat_eq m n ≡ false) (numbers list)) same apart in
        ap (λ f. option_or (option_or (option_and_then kind_of_target f) (kind_by_phi list value)) (kinds_in (slice_set table phi.value.0 (Some phi.kind)) value)) (absent_instr value list absent)
        ∙ ap (λ f. option_or (option_map (λ (p : Phi). p.kind) f) (kinds_in (slice_set table phi.value.0 (Some phi.kind)) value)) (absent_phi value list absent)
        ∙ read_told table phi.value value phi.kind same within
        ∙ sym (ap (λ f. option_or (option_or (option_and_then kind_of_target f) (kind_by_phi (PhiItem phi ∷ list) value)) (kinds_in table value)) (absent_instr value list absent)
        ∙ ap (λ f. option_or (option_map (λ (p : Phi). p.kind) f) (kinds_in table value)) (stops_at (is_phi_of value) phi (flat_map phi_of list) is))
    by_test false is =
        ap (option_or (kind_among list value)) (read_other table phi.value value phi.kind is)
        ∙ sym (ap (λ f. option_or (option_or (kind_by_instr list value) (option_map (λ (p : Phi). p.kind) f)) (kinds_in table value)) (passes_by (is_phi_of value) phi (flat_map phi_of list) is))

-- a table that was told items says their kinds, and else what it said before
told-right : (value : ValueId) (list : List Item) (table : List (Option Kind)) → IsDistinct nat_eq (numbers list) → value.0 < length table
    → kinds_in (told_all list table) value ≡ option_or (kind_among list value) (kinds_in table value)
told-right value [] table h within = refl
told-right value (BlockHead id ∷ list) table h within = told-right value list table h within
told-right value (PhiItem phi ∷ list) table h within =
    told-right value list (slice_set table phi.value.0 (Some phi.kind)) (IsDistinct-tail nat_eq phi.value.0 (numbers list) h) (subst (λ n. value.0 < n) (sym (length-set table phi.value.0 (Some phi.kind))) within)
    ∙ phi_before value phi list table (IsDistinct-head nat_eq phi.value.0 (numbers list) h) within
told-right value (InstrItem (Alu id op kind srcs) ∷ list) table h within =
    told-right value list (slice_set table id.0 (Some kind)) (IsDistinct-tail nat_eq id.0 (numbers list) h) (subst (λ n. value.0 < n) (sym (length-set table id.0 (Some kind))) within)
    ∙ instr_before value id kind (Alu id op kind srcs) list table refl refl (IsDistinct-head nat_eq id.0 (numbers list) h) within
told-right value (InstrItem (Const id kind comps) ∷ list) table h within =
    told-right value list (slice_set table id.0 (Some kind)) (IsDistinct-tail nat_eq id.0 (numbers list) h) (subst (λ n. value.0 < n) (sym (length-set table id.0 (Some kind))) within)
    ∙ instr_before value id kind (Const id kind comps) list table refl refl (IsDistinct-head nat_eq id.0 (numbers list) h) within
told-right value (InstrItem (Undef id kind) ∷ list) table h within =
    told-right value list (slice_set table id.0 (Some kind)) (IsDistinct-tail nat_eq id.0 (numbers list) h) (subst (λ n. value.0 < n) (sym (length-set table id.0 (Some kind))) within)
    ∙ instr_before value id kind (Undef id kind) list table refl refl (IsDistinct-head nat_eq id.0 (numbers list) h) within
told-right value (InstrItem (Input id kind slot) ∷ list) table h within =
    told-right value list (slice_set table id.0 (Some kind)) (IsDistinct-tail nat_eq id.0 (numbers list) h) (subst (λ n. value.0 < n) (sym (length-set table id.0 (Some kind))) within)
    ∙ instr_before value id kind (Input id kind slot) list table refl refl (IsDistinct-head nat_eq id.0 (numbers list) h) within
told-right value (InstrItem (Output effect slot src) ∷ list) table h within = told-right value list table h within
told-right value (InstrItem (LoadBuf id kind buffer offset) ∷ list) table h within =
    told-right value list (slice_set table id.0 (Some kind)) (IsDistinct-tail nat_eq id.0 (numbers list) h) (subst (λ n. value.0 < n) (sym (length-set table id.0 (Some kind))) within)
    ∙ instr_before value id kind (LoadBuf id kind buffer offset) list table refl refl (IsDistinct-head nat_eq id.0 (numbers list) h) within
told-right value (InstrItem (StoreBuf effect buffer offset src) ∷ list) table h within = told-right value list table h within
told-right value (JumpItem jump ∷ list) table h within = told-right value list table h within
told-right value (IfHead id condition ∷ list) table h within = told-right value list table h within
told-right value (LoopHead id ∷ list) table h within = told-right value list table h within

-- a value at or above the bound of all numbers is defined nowhere
absent_above : (value : ValueId) (n : ℕ) (list : List ℕ) → n ≤ value.0 → AllByRecursion (λ v. v < n) list → AllByRecursion (λ m. nat_eq value.0 m ≡ false) list
absent_above value n [] above h = tt
absent_above value n (m ∷ list) above h =
    let less : m < n = h.0 in
    (ne_eqb value.0 m (λ e. let same : value.0 ≡ m = e in absurd (omega arith)), absent_above value n list above h.1)

same_kinds : (a b : Kinds) → ((value : ValueId) → a value ≡ b value) → a ≡ b
same_kinds a b h = λ i value. h value i

-- an empty table that was told all of a shaped body
table_right : (body : Nodes) (n : ℕ) → IsDistinct nat_eq (numbers (items body)) → AllByRecursion (λ v. v < n) (numbers (items body)) → (value : ValueId) (is_below : Bool) → nat_lt value.0 n ≡ is_below → kinds_in (told_in body (replicate n None)) value ≡ kind_at body value
unfolding AbsentFrom
table_right body n distinct below value true is =
    let less : value.0 < n = ltb-true value.0 n is in
    told-right value (items body) (replicate n None) distinct (subst (λ m. value.0 < m) (sym (length-replicate n None)) less)
    ∙ ap (option_or (kind_at body value)) (get_or-replicate n value.0 None None less)
    ∙ option_or-none (kind_at body value)
table_right body n distinct below value false is =
    let above : n ≤ value.0 = ltb-false value.0 n is in
    let absent : AbsentFrom value (items body) = absent_above value n (numbers (items body)) above below in
    get_or-eq_default (told_in body (replicate n None)) None (subst (λ m. m ≤ value.0) (sym (told-length (items body) (replicate n None) ∙ length-replicate n None)) above)
    ∙ sym (ap (λ f. option_or (option_and_then kind_of_target f) (kind_by_phi (items body) value)) (absent_instr value (items body) absent)
    ∙ ap (option_map (λ (phi : Phi). phi.kind)) (absent_phi value (items body) absent))

pub kind_table : (s : Shader) → IsShaped s → kinds_in (told_in s.body (replicate s.next_value None)) ≡ kind_at s.body
kind_table s shaped = same_kinds (kinds_in (told_in s.body (replicate s.next_value None))) (kind_at s.body) (λ value. table_right s.body s.next_value shaped.values shaped.below value (nat_lt value.0 s.next_value) refl)
