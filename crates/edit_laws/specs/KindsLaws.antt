-- Instructions in the place of the one that defines a value: which instruction defines each value then, and the kinds of values.
use Rattle.std.specs.Prelude.{◌≡◌, refl, ℕ, ◌<◌, ◌≤◌, Bool, true, false, ◌||◌, nat_eq, cond, List, [], ◌∷◌, ◌++◌, length, map, Option, Some, None}
use Rattle.std.specs.List.{AllByRecursion, find, flat_map, list_any, range_with_len, IsDistinct}
use Rattle.std.specs.Option.{option_and_then, option_map, option_or, option_to_list}
use Rattle.std.proofs.Common.{sym, ◌∙◌, ap, arith, subst, ⊎_elim, ◌⊎◌, inl, inr, append-nil}
use Rattle.std.proofs.lemmas.Bool.{cases_eq, cases_lt, cond-false, cond-true, ne_eqb}
use Rattle.list_laws.specs.AllLaws.{all_back, all_each, all_front}
use Rattle.std.proofs.lemmas.Option.{none-some}
use Rattle.nir_ir.specs.declared.ids.ValueId.{ValueId}
use Rattle.nir_ir.specs.declared.instr.Instr.{Instr}
use Rattle.nir_ir.specs.declared.instr.Instr.TheVariants.{Alu, Const, Undef, Input, Output, LoadBuf, StoreBuf}
use Rattle.nir_ir.specs.declared.kind.Kind.{Kind}
use Rattle.nir_ir.specs.declared.node.Phi.{Phi}
use Rattle.nir_ir.specs.Definitions.{instr_defining, instr_of, instrs, is_phi_of, is_target, kind_at, kind_of_target, phi_defining, phi_of, phis}
use Rattle.nir_ir.specs.Edits.{ArePlaced, in_place_of, replaced}
use Rattle.nir_ir.specs.EditsShaped.{instrs-replaced, is_target-of, target_of}
use Rattle.nir_ir.specs.Items.{Item, BlockHead, PhiItem, InstrItem, JumpItem, IfHead, LoopHead, items, target}
use Rattle.nir_ir.specs.Nodes.{Nodes}
use Rattle.nir_ir.specs.Shaped.{IsOneOf, IsShaped}
use Rattle.nir_ir.specs.Shader.{Shader}
use Rattle.edit_laws.specs.DefiningLaws.{IsFound, all_found}
use Rattle.edit_laws.specs.ItemsLaws.{given-apart, numbers_of, target_numbers}
use Rattle.edit_laws.specs.NumbersLaws.{member_has, one_of-back, one_of-front, one_of-here, range-within}
use Rattle.edit_laws.specs.PlacedLaws.{numbers_from, placed_within, placed_gives}

-- ---- what is found in a list in which instructions stand in the place of one

find-yes : {A : Type 0} (test : A → Bool) (a : A) (list : List A) → test a ≡ true → find test (a ∷ list) ≡ Some a
find-yes test a list is = cond-true (test a) (Some a) (find test list) is

find-no : {A : Type 0} (test : A → Bool) (a : A) (list : List A) → test a ≡ false → find test (a ∷ list) ≡ find test list
find-no test a list is = cond-false (test a) (Some a) (find test list) is

find-front : {A : Type 0} (test : A → Bool) (front list : List A) (a : A) → find test front ≡ Some a → find test (front ++ list) ≡ Some a
find-front test [] list a found = absurd (none-some a found)
find-front test (b ∷ front) list a found = by_test (test b) refl (find-front test front list a) where
  by_test : (here : Bool) → test b ≡ here → (find test front ≡ Some a → find test (front ++ list) ≡ Some a) → find test (b ∷ front ++ list) ≡ Some a
  by_test true is rest = find-yes test b (front ++ list) is ∙ sym (find-yes test b front is) ∙ found
  by_test false is rest = find-no test b (front ++ list) is ∙ rest (sym (find-no test b front is) ∙ found)

find-past : {A : Type 0} (test : A → Bool) (front list : List A) → AllByRecursion (λ a. test a ≡ false) front → find test (front ++ list) ≡ find test list
find-past test [] list none = refl
find-past test (a ∷ front) list none = find-no test a (front ++ list) none.0 ∙ find-past test front list none.1

placed-yes : (value : ValueId) (news : List Instr) (instr : Instr) (list : List Instr) → is_target value instr ≡ true → flat_map (in_place_of value news) (instr ∷ list) ≡ news ++ flat_map (in_place_of value news) list
placed-yes value news instr list is = ap (λ t. t ++ flat_map (in_place_of value news) list) (cond-true (is_target value instr) news (instr ∷ []) is)

placed-no : (value : ValueId) (news : List Instr) (instr : Instr) (list : List Instr) → is_target value instr ≡ false → flat_map (in_place_of value news) (instr ∷ list) ≡ instr ∷ flat_map (in_place_of value news) list
placed-no value news instr list is = ap (λ t. t ++ flat_map (in_place_of value news) list) (cond-false (is_target value instr) news (instr ∷ []) is)

-- a value that the new instructions define, and that no instruction but the old one defined
find_new : (value id : ValueId) (news : List Instr) (old new : Instr) → find (is_target id) news ≡ Some new → (list : List Instr) → find (is_target value) list ≡ Some old
    → AllByRecursion (λ instr. is_target value instr ≡ false → is_target id instr ≡ false) list → find (is_target id) (flat_map (in_place_of value news) list) ≡ Some new
find_new value id news old new among [] found none = absurd (none-some old found)
find_new value id news old new among (instr ∷ list) found none = by_test (is_target value instr) refl (find_new value id news old new among list) where
  by_test : (here : Bool) → is_target value instr ≡ here
      → (find (is_target value) list ≡ Some old → AllByRecursion (λ i. is_target value i ≡ false → is_target id i ≡ false) list → find (is_target id) (flat_map (in_place_of value news) list) ≡ Some new)
      → find (is_target id) (flat_map (in_place_of value news) (instr ∷ list)) ≡ Some new
  by_test true is rest = ap (find (is_target id)) (placed-yes value news instr list is) ∙ find-front (is_target id) news (flat_map (in_place_of value news) list) new among
  by_test false is rest =
      ap (find (is_target id)) (placed-no value news instr list is)
      ∙ find-no (is_target id) instr (flat_map (in_place_of value news) list) (none.0 is)
      ∙ rest (sym (find-no (is_target value) instr list is) ∙ found) none.1

-- a value that neither the new instructions nor the old one define
find_other : (value id : ValueId) (news : List Instr) → AllByRecursion (λ new. is_target id new ≡ false) news → (list : List Instr)
    → AllByRecursion (λ instr. is_target value instr ≡ true → is_target id instr ≡ false) list → find (is_target id) (flat_map (in_place_of value news) list) ≡ find (is_target id) list
find_other value id news others [] apart = refl
find_other value id news others (instr ∷ list) apart = by_test (is_target value instr) refl (find_other value id news others list apart.1) where
  by_test : (here : Bool) → is_target value instr ≡ here → find (is_target id) (flat_map (in_place_of value news) list) ≡ find (is_target id) list
      → find (is_target id) (flat_map (in_place_of value news) (instr ∷ list)) ≡ find (is_target id) (instr ∷ list)
  by_test true is rest =
      ap (find (is_target id)) (placed-yes value news instr list is)
      ∙ find-past (is_target id) news (flat_map (in_place_of value news) list) others
      ∙ rest
      ∙ sym (find-no (is_target id) instr list (apart.0 is))
  by_test false is rest = ap (find (is_target id)) (placed-no value news instr list is) ∙ ap (λ found. cond (is_target id instr) (Some instr) found) rest

-- ---- which instruction defines each value

same_id : (a b : ValueId) → a.0 ≡ b.0 → a ≡ b
same_id a b h = let id : ℕ → ValueId = λ n. record { 0 = n } in ap id h

not_target : (id other : ValueId) (instr : Instr) → target instr ≡ Some other → (other.0 ≡ id.0 → ⊥) → is_target id instr ≡ false
not_target id other instr aims differ =
    ap (λ found. list_any (λ i. nat_eq i.0 id.0) (option_to_list found)) aims ∙ ap (λ t. t || false) (ne_eqb other.0 id.0 differ)

-- whatever has no number does not define it
number_not : (id : ValueId) (instr : Instr) → (IsOneOf (target_numbers instr) id.0 → ⊥) → is_target id instr ≡ false
number_not id instr not = by_target (target instr) refl where
  by_target : (found : Option ValueId) → target instr ≡ found → is_target id instr ≡ false
  by_target None aims = ap (λ found. list_any (λ i. nat_eq i.0 id.0) (option_to_list found)) aims
  by_target (Some other) aims = not_target id other instr aims (λ same. not (subst (λ found. IsOneOf (map (λ (i : ValueId). i.0) (option_to_list found)) id.0) (sym aims) (subst (IsOneOf (other.0 ∷ [])) same (one_of-here other.0 []))))

numbers_not : (id : ValueId) (news : List Instr) → (IsOneOf (flat_map target_numbers news) id.0 → ⊥) → AllByRecursion (λ new. is_target id new ≡ false) news
numbers_not id [] not = tt
numbers_not id (new ∷ news) not =
    (number_not id new (λ is. not (one_of-front (target_numbers new) (flat_map target_numbers news) id.0 is)), numbers_not id news (λ is. not (one_of-back (target_numbers new) (flat_map target_numbers news) id.0 is)))

target_apart : (value id : ValueId) → (id.0 ≡ value.0 → ⊥) → (list : List Instr) → AllByRecursion (λ instr. is_target value instr ≡ true → is_target id instr ≡ false) list
target_apart value id differ [] = tt
target_apart value id differ (instr ∷ list) = ((λ is. not_target id value instr (target_of value instr is) (λ same. differ (sym same))), target_apart value id differ list)

-- each value below the bound keeps the instruction that defines it, but for the value itself
pub defining_other : (next after : ℕ) (value id : ValueId) (news : List Instr) → ArePlaced next after value news → id.0 < next → (id.0 ≡ value.0 → ⊥) → (nodes : Nodes)
    → instr_defining id (replaced value news nodes) ≡ instr_defining id nodes
defining_other next after value id news placed less differ nodes =
    ap (find (is_target id)) (instrs-replaced value news nodes)
    ∙ find_other value id news
    (numbers_not id news (λ is. ⊎_elim (λ same. differ same) (λ within. let low = within.0 in absurd (omega (arith, low, less))) (placed_within next after value news placed id.0 is)))
    (instrs nodes) (target_apart value id differ (instrs nodes))

-- a value that is defined by one of the new instructions
targets_below : (bound : ℕ) (id : ValueId) → bound ≤ id.0 → (list : List Item) → AllByRecursion (λ n. n < bound) (flat_map numbers_of list)
    → AllByRecursion (λ instr. is_target id instr ≡ false) (flat_map instr_of list)
targets_below bound id high [] below = tt
targets_below bound id high (BlockHead b ∷ list) below = targets_below bound id high list below
targets_below bound id high (PhiItem phi ∷ list) below = targets_below bound id high list below.1
targets_below bound id high (InstrItem instr ∷ list) below = (
  number_not id instr (λ is. let less = member_has (λ n. n < bound) (target_numbers instr) id.0 (all_front (λ n. n < bound) (target_numbers instr) (flat_map numbers_of list) below) is in absurd (omega (arith, less, high))),
  targets_below bound id high list (all_back (λ n. n < bound) (target_numbers instr) (flat_map numbers_of list) below),
)
targets_below bound id high (JumpItem jump ∷ list) below = targets_below bound id high list below
targets_below bound id high (IfHead i condition ∷ list) below = targets_below bound id high list below
targets_below bound id high (LoopHead i ∷ list) below = targets_below bound id high list below

weaker : (value id : ValueId) (list : List Instr) → AllByRecursion (λ instr. is_target id instr ≡ false) list → AllByRecursion (λ instr. is_target value instr ≡ false → is_target id instr ≡ false) list
weaker value id list all = all_each (λ instr. is_target id instr ≡ false) (λ instr. is_target value instr ≡ false → is_target id instr ≡ false) (λ instr h other. h) list all

itself : (value : ValueId) (list : List Instr) → AllByRecursion (λ instr. is_target value instr ≡ false → is_target value instr ≡ false) list
itself value [] = tt
itself value (instr ∷ list) = ((λ h. h), itself value list)

pub defining_fresh : (s : Shader) (value id : ValueId) (old new : Instr) (news : List Instr) → IsShaped s → instr_defining value s.body ≡ Some old → find (is_target id) news ≡ Some new → s.next_value ≤ id.0
    → instr_defining id (replaced value news s.body) ≡ Some new
defining_fresh s value id old new news shaped found among high =
    ap (find (is_target id)) (instrs-replaced value news s.body)
    ∙ find_new value id news old new among (instrs s.body) found (weaker value id (instrs s.body) (targets_below s.next_value id high (items s.body) shaped.below))

-- the last of the new ones defines the value
last_found : (next after : ℕ) (value : ValueId) (news : List Instr) (placed : ArePlaced next after value news) → value.0 < next → find (is_target value) news ≡ Some placed.last
last_found next after value news placed less =
    ap (find (is_target value)) placed.are
    ∙ find-past (is_target value) placed.front (placed.last ∷ []) (numbers_not value placed.front
    (λ is. let low = (range-within next (length placed.front) value.0 (subst (λ list. IsOneOf list value.0) (numbers_from placed.front (range_with_len next (length placed.front)) placed.fresh) is)).0 in absurd (omega (arith, low, less))))
    ∙ find-yes (is_target value) placed.last [] (is_target-of value placed.last placed.root)

pub defining_value : (s : Shader) (value : ValueId) (old : Instr) (news : List Instr) (after : ℕ) → IsShaped s → instr_defining value s.body ≡ Some old → (placed : ArePlaced s.next_value after value news) → value.0 < s.next_value
    → instr_defining value (replaced value news s.body) ≡ Some placed.last
defining_value s value old news after shaped found placed less =
    ap (find (is_target value)) (instrs-replaced value news s.body)
    ∙ find_new value value news old placed.last (last_found s.next_value after value news placed less) (instrs s.body) found (itself value (instrs s.body))

pub defining_here : (s : Shader) (value : ValueId) (old new : Instr) (news : List Instr) → instr_defining value s.body ≡ Some old → find (is_target value) news ≡ Some new → instr_defining value (replaced value news s.body) ≡ Some new
defining_here s value old new news found among =
    ap (find (is_target value)) (instrs-replaced value news s.body)
    ∙ find_new value value news old new among (instrs s.body) found (itself value (instrs s.body))

-- what is found nowhere
none_found : {A : Type 0} (test : A → Bool) (list : List A) → find test list ≡ None → AllByRecursion (λ a. test a ≡ false) list
none_found test [] none = tt
none_found {A} test (a ∷ list) none = by_test (test a) refl (none_found test list) where
  by_test : (here : Bool) → test a ≡ here → (find test list ≡ None → AllByRecursion (λ (x : A). test x ≡ false) list) → AllByRecursion (λ (x : A). test x ≡ false) (a ∷ list)
  by_test true is rest = absurd (none-some a (sym none ∙ find-yes test a list is))
  by_test false is rest = (is, rest (sym (find-no test a list is) ∙ none))

-- each value is defined by the new instruction that defines it, else by what defined it before
pub defining_placed : (s : Shader) (value id : ValueId) (old : Instr) (news : List Instr) (after : ℕ) → IsShaped s → instr_defining value s.body ≡ Some old → ArePlaced s.next_value after value news → value.0 < s.next_value
    → instr_defining id (replaced value news s.body) ≡ option_or (find (is_target id) news) (instr_defining id s.body)
defining_placed s value id old news after shaped found placed low = by_find (find (is_target id) news) refl where
  fresh_or_value : (new : Instr) → find (is_target id) news ≡ Some new → id.0 < s.next_value → (id.0 ≡ value.0 → ⊥) → ⊥
  fresh_or_value new among less differ =
      none-some new
      (sym (find-past (is_target id) news []
      (numbers_not id news (λ is. ⊎_elim (λ same. differ same) (λ within. let high = within.0 in absurd (omega (arith, high, less))) (placed_within s.next_value after value news placed id.0 is)))
      ) ∙ ap (find (is_target id)) (append-nil news) ∙ among)

  by_find : (new : Option Instr) → find (is_target id) news ≡ new → instr_defining id (replaced value news s.body) ≡ option_or (find (is_target id) news) (instr_defining id s.body)
  by_find (Some new) among =
      ⊎_elim
      (λ same. subst (λ (v : ValueId). find (is_target v) news ≡ Some new → instr_defining v (replaced value news s.body) ≡ Some new) (sym (same_id id value same)) (defining_here s value old new news found) among)
      (λ differ. ⊎_elim (λ less. absurd (fresh_or_value new among less differ)) (λ high. defining_fresh s value id old new news shaped found among high) (cases_lt id.0 s.next_value))
      (cases_eq id.0 value.0)
      ∙ ap (λ f. option_or f (instr_defining id s.body)) (sym among)
  by_find None none =
      ap (find (is_target id)) (instrs-replaced value news s.body)
      ∙ find_other value id news (none_found (is_target id) news none) (instrs s.body)
      (target_apart value id
      (λ same. none-some placed.last (sym (subst (λ (v : ValueId). find (is_target v) news ≡ None) (same_id id value same) none) ∙ last_found s.next_value after value news placed low))
      (instrs s.body))
      ∙ ap (λ f. option_or f (instr_defining id s.body)) (sym none)

-- ---- and so the kinds of values

pub phis-placed : (value : ValueId) (news : List Instr) (nodes : Nodes) → phis (replaced value news nodes) ≡ phis nodes
phis-placed value news nodes = given-apart phi_of value news (λ _. refl) nodes

phi_still : (value id : ValueId) (news : List Instr) (nodes : Nodes) → phi_defining id (replaced value news nodes) ≡ phi_defining id nodes
phi_still value id news nodes = ap (find (is_phi_of id)) (phis-placed value news nodes)

abbrev kind_by : Option Instr → Option Phi → Option Kind
kind_by instr phi = option_or (option_and_then kind_of_target instr) (option_map (λ p. p.kind) phi)

-- each value of the shader keeps its kind, where the last of the new instructions has that of the old one
pub kind_kept : (s : Shader) (value id : ValueId) (old : Instr) (news : List Instr) (after : ℕ) → IsShaped s → instr_defining value s.body ≡ Some old → (placed : ArePlaced s.next_value after value news) → value.0 < s.next_value
    → kind_of_target placed.last ≡ kind_of_target old → id.0 < s.next_value → kind_at (replaced value news s.body) id ≡ kind_at s.body id
kind_kept s value id old news after shaped found placed low same less =
    ⊎_elim
    (λ is. subst (λ v. kind_at (replaced value news s.body) v ≡ kind_at s.body v) (sym (same_id id value is)) here)
    (λ other.
    ap (λ instr. kind_by instr (phi_defining id (replaced value news s.body))) (defining_other s.next_value after value id news placed less other s.body)
    ∙ ap (kind_by (instr_defining id s.body)) (phi_still value id news s.body))
    (cases_eq id.0 value.0)
  where
    here : kind_at (replaced value news s.body) value ≡ kind_at s.body value
    here =
        ap (λ instr. kind_by instr (phi_defining value (replaced value news s.body))) (defining_value s value old news after shaped found placed low)
        ∙ ap (λ kind. option_or kind (option_map (λ p. p.kind) (phi_defining value (replaced value news s.body)))) same
        ∙ ap (kind_by (Some old)) (phi_still value value news s.body)
        ∙ ap (λ instr. kind_by instr (phi_defining value s.body)) (sym found)

-- and a fresh one has that of the instruction that defines it
pub kind_fresh : (s : Shader) (value id : ValueId) (old new : Instr) (news : List Instr) (kind : Kind) → IsShaped s → instr_defining value s.body ≡ Some old → find (is_target id) news ≡ Some new → s.next_value ≤ id.0
    → kind_of_target new ≡ Some kind → kind_at (replaced value news s.body) id ≡ Some kind
kind_fresh s value id old new news kind shaped found among high is =
    ap (λ instr. kind_by instr (phi_defining id (replaced value news s.body))) (defining_fresh s value id old new news shaped found among high)
    ∙ ap (λ k. option_or k (option_map (λ p. p.kind) (phi_defining id (replaced value news s.body)))) is

-- ---- what the new instructions define has their kinds

-- what defines a value has a kind
kind_there : (instr : Instr) (id : ValueId) → target instr ≡ Some id → kind_of_target instr ≡ None → ⊥
kind_there (Alu v op kind srcs) id aims none = none-some kind (sym none)
kind_there (Const v kind comps) id aims none = none-some kind (sym none)
kind_there (Undef v kind) id aims none = none-some kind (sym none)
kind_there (Input v kind slot) id aims none = none-some kind (sym none)
kind_there (Output effect slot src) id aims none = none-some id aims
kind_there (LoadBuf v kind buffer offset) id aims none = none-some kind (sym none)
kind_there (StoreBuf effect buffer offset src) id aims none = none-some id aims

instrs_only : (news : List Instr) → flat_map instr_of (map InstrItem news) ≡ news
instrs_only [] = refl
instrs_only (new ∷ news) = ap (λ t. new ∷ t) (instrs_only news)

numbers_only : (news : List Instr) → flat_map numbers_of (map InstrItem news) ≡ flat_map target_numbers news
numbers_only [] = refl
numbers_only (new ∷ news) = ap (λ t. target_numbers new ++ t) (numbers_only news)

-- each of the new instructions is the one that is found among them for its value
pub news_found : (news : List Instr) → IsDistinct nat_eq (flat_map target_numbers news) → AllByRecursion (λ new. (id : ValueId) → target new ≡ Some id → find (is_target id) news ≡ Some new) news
news_found news distinct = of_items news (all_found (map InstrItem news) (subst (IsDistinct nat_eq) (sym (numbers_only news)) distinct)) where
  of_items : (list : List Instr) → AllByRecursion (IsFound (map InstrItem news)) (map InstrItem list) → AllByRecursion (λ (new : Instr). (id : ValueId) → target new ≡ Some id → find (is_target id) news ≡ Some new) list
  of_items [] all = tt
  of_items (new ∷ list) all = ((λ id aims. ap (find (is_target id)) (sym (instrs_only news)) ∙ (all.0 id aims).found), of_items list all.1)

target_number : (new : Instr) (id : ValueId) → target new ≡ Some id → IsOneOf (target_numbers new) id.0
target_number new id aims = subst (λ found. IsOneOf (map (λ (i : ValueId). i.0) (option_to_list found)) id.0) (sym aims) (one_of-here id.0 [])

-- the numbers of those of a list are among all
abbrev IsAmong : List Instr → Instr → Type 0
IsAmong news new = (n : ℕ) → IsOneOf (target_numbers new) n → IsOneOf (flat_map target_numbers news) n

among_all : (news : List Instr) → AllByRecursion (IsAmong news) news
among_all [] = tt
among_all (new ∷ news) = (
  (λ n is. one_of-front (target_numbers new) (flat_map target_numbers news) n is),
  all_each (IsAmong news) (IsAmong (new ∷ news)) (λ other is n own. one_of-back (target_numbers new) (flat_map target_numbers news) n (is n own)) news (among_all news),
)

both_hold : (P Q : Instr → Type 0) (list : List Instr) → AllByRecursion P list → AllByRecursion Q list → AllByRecursion (λ instr. P instr × Q instr) list
both_hold P Q [] p q = tt
both_hold P Q (instr ∷ list) p q = ((p.0, q.0), both_hold P Q list p.1 q.1)

pub news_told : (s : Shader) (value : ValueId) (old : Instr) (news : List Instr) (after : ℕ) → IsShaped s → instr_defining value s.body ≡ Some old → ArePlaced s.next_value after value news → value.0 < s.next_value
    → AllByRecursion (λ new. (id : ValueId) → target new ≡ Some id → kind_at (replaced value news s.body) id ≡ kind_of_target new) news
news_told s value old news after shaped found placed low =
    let Finds : Instr → Type 0 = λ new. (id : ValueId) → target new ≡ Some id → find (is_target id) news ≡ Some new in
    all_each (λ new. Finds new × IsAmong news new) (λ new. (id : ValueId) → target new ≡ Some id → kind_at (replaced value news s.body) id ≡ kind_of_target new)
    (λ new both id aims. told new id aims (both.0 id aims) (placed_within s.next_value after value news placed id.0 (both.1 id.0 (target_number new id aims)))) news
    (both_hold Finds (IsAmong news) news (news_found news (placed_gives s.next_value after value news placed low).distinct) (among_all news))
  where
    kind_some : (new : Instr) (id : ValueId) (body : Nodes) → instr_defining id body ≡ Some new → (found : Option Kind) → kind_of_target new ≡ found → target new ≡ Some id → kind_at body id ≡ kind_of_target new
    kind_some new id body defining (Some kind) is aims =
        ap (λ instr. kind_by instr (phi_defining id body)) defining ∙ ap (λ k. option_or k (option_map (λ (p : Phi). p.kind) (phi_defining id body))) is ∙ sym is
    kind_some new id body defining None is aims = absurd (kind_there new id aims is)

    told : (new : Instr) (id : ValueId) → target new ≡ Some id → find (is_target id) news ≡ Some new → (id.0 ≡ value.0) ⊎ ((s.next_value ≤ id.0) × (id.0 < after)) → kind_at (replaced value news s.body) id ≡ kind_of_target new
    told new id aims among (inl same) =
        let own : id ≡ value = same_id id value same in
        kind_some new id (replaced value news s.body)
        (subst (λ (v : ValueId). instr_defining v (replaced value news s.body) ≡ Some new) (sym own) (defining_here s value old new news found (subst (λ (v : ValueId). find (is_target v) news ≡ Some new) own among)))
        (kind_of_target new) refl aims
    told new id aims among (inr within) = kind_some new id (replaced value news s.body) (defining_fresh s value id old new news shaped found among within.0) (kind_of_target new) refl aims
