-- What a walk along the tree of a shader lists are the uses of the value, each once.
use Rattle.std.proofs.Common.{◌≡◌, ◌≢◌, refl, ℕ, ◌+◌, ◌<◌, Bool, true, false, cond, nat_eq, Some, List, [], ◌∷◌, ◌++◌, map, length, sym, ◌∙◌, ap, subst, append_assoc, arith}
use Rattle.std.proofs.lemmas.Bool.{eqb-true, eq-eqb, true≢false}
use Rattle.std.proofs.lemmas.List.{length-append}
use Rattle.std.proofs.lemmas.List.Elements.{All-from_recursion}
use Rattle.std.proofs.lemmas.List.Kept.{AllPairs-cons}
use Rattle.std.proofs.lemmas.List.Sums.{sum_by-append, sum_by-cons}
use Rattle.std.proofs.lemmas.Map.Keys.{IsDistinct-head, IsDistinct-tail}
use Rattle.std.specs.List.{flat_map, count_by, slice_get, AllByRecursion, AllPairs, IsDistinct}
use Rattle.list_laws.specs.AllLaws.{all_append, all_back, all_each, all_front}
use Rattle.nir_ir.specs.declared.ids.ValueId.{ValueId}
use Rattle.nir_ir.specs.declared.ids.EffectId.{EffectId}
use Rattle.nir_ir.specs.declared.instr.Instr.{Instr}
use Rattle.nir_ir.specs.declared.instr.Instr.TheVariants.{Alu, Const, Undef, Input, Output, LoadBuf, StoreBuf}
use Rattle.nir_ir.specs.declared.journal.Use.{Use}
use Rattle.nir_ir.specs.declared.journal.Use.TheVariants.{OfValue, OfEffect, OfIf}
use Rattle.nir_ir.specs.Items.{Item, BlockHead, PhiItem, InstrItem, JumpItem, IfHead, LoopHead, items, defines, effects_of, ifs_of, reads, uses}
use Rattle.nir_ir.specs.Nodes.{Nodes}
use Rattle.nir_ir.specs.Shader.{Shader}
use Rattle.nir_ir.specs.Shaped.{IsShaped}
use Rattle.nir_ir.specs.Uses.{is_value}
use Rattle.nir_tree.specs.Listed.{numbered, source_of, uses_by, uses_in}
use Rattle.nir_tree.specs.Users.{AreUsers, IsNamed, IsUseOf, source_number}

-- as many as the use count says
longer : (named : Use) (rest : List Use) (here : Bool) → length (cond here (named ∷ rest) rest) ≡ cond here 1 0 + length rest
longer named rest true = omega arith
longer named rest false = omega arith

count_numbered : (value : ValueId) (named : ℕ → Use) (n : ℕ) (list : List ValueId) → length (numbered value named n list) ≡ count_by (is_value value) list
count_numbered value named n [] = refl
count_numbered value named n (used ∷ more) =
    longer (named n) (numbered value named (n + 1) more) (is_value value used)
    ∙ ap (λ (k : ℕ). cond (is_value value used) 1 0 + k) (count_numbered value named (n + 1) more)
    ∙ sym (sum_by-cons (λ x. cond (is_value value x) 1 0) used more)

count_by_item : (value : ValueId) (item : Item) → length (uses_by value item) ≡ count_by (is_value value) (uses item)
count_by_item value (BlockHead id) = refl
count_by_item value (PhiItem phi) = count_numbered value (OfValue phi.value) 0 (uses (PhiItem phi))
count_by_item value (InstrItem instr) = count_numbered value (source_of instr) 0 (reads instr)
count_by_item value (JumpItem jump) = refl
count_by_item value (IfHead id condition) = count_numbered value (λ _. OfIf id) 0 (condition ∷ [])
count_by_item value (LoopHead id) = refl

count_in : (value : ValueId) (list : List Item) → length (flat_map (uses_by value) list) ≡ count_by (is_value value) (flat_map uses list)
count_in value [] = refl
count_in value (item ∷ list) =
    length-append (uses_by value item) (flat_map (uses_by value) list)
    ∙ ap (λ (k : ℕ). k + length (flat_map (uses_by value) list)) (count_by_item value item)
    ∙ ap (λ (k : ℕ). count_by (is_value value) (uses item) + k) (count_in value list)
    ∙ sym (sum_by-append (λ x. cond (is_value value x) 1 0) (uses item) (flat_map uses list))

-- what holds of a source that is the value, and of those behind it
all_cond : (P : Use → Type 0) (named : Use) (rest : List Use) (here : Bool) → (here ≡ true → P named) → AllByRecursion P rest → AllByRecursion P (cond here (named ∷ rest) rest)
all_cond P named rest true first others = (first refl, others)
all_cond P named rest false first others = others

-- each listed use is one
same_value : (a b : ValueId) → is_value a b ≡ true → b ≡ a
same_value a b h = let id : ℕ → ValueId = λ n. record { 0 = n } in ap id (eqb-true b.0 a.0 h)

get_middle : (front : List ValueId) (a : ValueId) (more : List ValueId) → slice_get (front ++ a ∷ more) (length front) ≡ Some a
get_middle [] a more = refl
get_middle (x ∷ front) a more = get_middle front a more

source_at : (value used : ValueId) (list front more : List ValueId) (n : ℕ) → n ≡ length front → list ≡ front ++ used ∷ more → is_value value used ≡ true → slice_get list n ≡ Some value
source_at value used list front more n place split is =
    ap (slice_get list) place
    ∙ ap (λ (l : List ValueId). slice_get l (length front)) split
    ∙ get_middle front used more
    ∙ ap Some (same_value value used is)

sources_are : (value : ValueId) (body : Nodes) (before : List Item) (item : Item) (behind : List Item) → items body ≡ before ++ item ∷ behind
    → (named : ℕ → Use) → ((n : ℕ) → IsNamed (named n) item) → ((n : ℕ) → source_number (named n) ≡ n)
    → (front list : List ValueId) (n : ℕ) → n ≡ length front → uses item ≡ front ++ list → AllByRecursion (IsUseOf value body) (numbered value named n list)
sources_are value body before item behind stands named is number front [] n place split = tt
sources_are value body before item behind stands named is number front (used ∷ more) n place split =
    let next : n + 1 ≡ length (front ++ used ∷ []) = ap (λ (k : ℕ). k + 1) place ∙ sym (length-append front (used ∷ [])) in
    all_cond (IsUseOf value body) (named n) (numbered value named (n + 1) more) (is_value value used)
    (λ here. record {
      before = before;
      item = item;
      behind = behind;
      stands = stands;
      is = is n;
      source = source_at value used (uses item) front more (source_number (named n)) (number n ∙ place) split here;
    })
    (sources_are value body before item behind stands named is number (front ++ used ∷ []) more (n + 1) next (split ∙ sym (append_assoc front (used ∷ []) more)))

instr_named : (instr : Instr) (n : ℕ) → IsNamed (source_of instr n) (InstrItem instr)
instr_named (Alu value op kind srcs) n = refl
instr_named (Const value kind comps) n = refl
instr_named (Undef value kind) n = refl
instr_named (Input value kind slot) n = refl
instr_named (Output effect slot src) n = refl
instr_named (LoadBuf value kind buffer offset) n = refl
instr_named (StoreBuf effect buffer offset src) n = refl

instr_number : (instr : Instr) (n : ℕ) → source_number (source_of instr n) ≡ n
instr_number (Alu value op kind srcs) n = refl
instr_number (Const value kind comps) n = refl
instr_number (Undef value kind) n = refl
instr_number (Input value kind slot) n = refl
instr_number (Output effect slot src) n = refl
instr_number (LoadBuf value kind buffer offset) n = refl
instr_number (StoreBuf effect buffer offset src) n = refl

by_item_are : (value : ValueId) (body : Nodes) (before : List Item) (item : Item) (behind : List Item) → items body ≡ before ++ item ∷ behind → AllByRecursion (IsUseOf value body) (uses_by value item)
by_item_are value body before (BlockHead id) behind stands = tt
by_item_are value body before (PhiItem phi) behind stands =
    sources_are value body before (PhiItem phi) behind stands (OfValue phi.value) (λ n. refl) (λ n. refl) [] (uses (PhiItem phi)) 0 refl refl
by_item_are value body before (InstrItem instr) behind stands =
    sources_are value body before (InstrItem instr) behind stands (source_of instr) (instr_named instr) (instr_number instr) [] (reads instr) 0 refl refl
by_item_are value body before (JumpItem jump) behind stands = tt
by_item_are value body before (IfHead id condition) behind stands =
    all_cond (IsUseOf value body) (OfIf id) [] (is_value value condition)
    (λ here. record {
      before = before;
      item = IfHead id condition;
      behind = behind;
      stands = stands;
      is = refl;
      source = source_at value condition (condition ∷ []) [] [] 0 refl refl here;
    })
    tt
by_item_are value body before (LoopHead id) behind stands = tt

listed_are : (value : ValueId) (body : Nodes) (before list : List Item) → items body ≡ before ++ list → AllByRecursion (IsUseOf value body) (flat_map (uses_by value) list)
listed_are value body before [] stands = tt
listed_are value body before (item ∷ list) stands =
    all_append (IsUseOf value body) (uses_by value item) (flat_map (uses_by value) list)
    (by_item_are value body before item list stands)
    (listed_are value body (before ++ item ∷ []) list (stands ∙ sym (append_assoc before (item ∷ []) list)))

-- no two of a list are the same
abbrev apart : List Use → Type 0
apart [] = Unit {0}
apart (a ∷ list) = AllByRecursion (λ b. a ≢ b) list × apart list

apart_append : (first second : List Use) → apart first → apart second → AllByRecursion (λ a. AllByRecursion (λ b. a ≢ b) second) first → apart (first ++ second)
apart_append [] second h g between = g
apart_append (a ∷ first) second h g between = (all_append (λ b. a ≢ b) first second h.0 between.0, apart_append first second h.1 g between.1)

apart_cond : (a : Use) (rest : List Use) (here : Bool) → AllByRecursion (λ b. a ≢ b) rest → apart rest → apart (cond here (a ∷ rest) rest)
apart_cond a rest true others h = (others, h)
apart_cond a rest false others h = h

all_pairs : (list : List Use) → apart list → AllPairs (λ a b. a ≢ b) list
all_pairs [] h = λ i j d before within. absurd (omega arith)
all_pairs (a ∷ list) h = AllPairs-cons (λ x y. x ≢ y) a list (All-from_recursion (λ b. a ≢ b) list h.0) (all_pairs list h.1)

-- of one item
later_differ : (value : ValueId) (named : ℕ → Use) → ((i j : ℕ) → named i ≡ named j → i ≡ j) → (n m : ℕ) (list : List ValueId) → n < m → AllByRecursion (λ b. named n ≢ b) (numbered value named m list)
later_differ value named one n m [] below = tt
later_differ value named one n m (used ∷ more) below =
    all_cond (λ b. named n ≢ b) (named m) (numbered value named (m + 1) more) (is_value value used)
    (λ _ e. let same : n ≡ m = one n m e in omega arith)
    (later_differ value named one n (m + 1) more (omega arith))

numbered_apart : (value : ValueId) (named : ℕ → Use) → ((i j : ℕ) → named i ≡ named j → i ≡ j) → (n : ℕ) (list : List ValueId) → apart (numbered value named n list)
numbered_apart value named one n [] = tt
numbered_apart value named one n (used ∷ more) =
    apart_cond (named n) (numbered value named (n + 1) more) (is_value value used) (later_differ value named one n (n + 1) more (omega arith)) (numbered_apart value named one (n + 1) more)

value_source : (id : ValueId) (i j : ℕ) → OfValue id i ≡ OfValue id j → i ≡ j
value_source id i j e = ap source_number e

effect_source : (id : EffectId) (i j : ℕ) → OfEffect id i ≡ OfEffect id j → i ≡ j
effect_source id i j e = ap source_number e

instr_source : (instr : Instr) (i j : ℕ) → source_of instr i ≡ source_of instr j → i ≡ j
instr_source instr i j e = sym (instr_number instr i) ∙ ap source_number e ∙ instr_number instr j

by_item_apart : (value : ValueId) (item : Item) → apart (uses_by value item)
by_item_apart value (BlockHead id) = tt
by_item_apart value (PhiItem phi) = numbered_apart value (OfValue phi.value) (value_source phi.value) 0 (uses (PhiItem phi))
by_item_apart value (InstrItem instr) = numbered_apart value (source_of instr) (instr_source instr) 0 (reads instr)
by_item_apart value (JumpItem jump) = tt
by_item_apart value (IfHead id condition) = apart_cond (OfIf id) [] (is_value value condition) tt tt
by_item_apart value (LoopHead id) = tt

-- each names its item
numbered_named : (P : Use → Type 0) (value : ValueId) (named : ℕ → Use) → ((n : ℕ) → P (named n)) → (n : ℕ) (list : List ValueId) → AllByRecursion P (numbered value named n list)
numbered_named P value named is n [] = tt
numbered_named P value named is n (used ∷ more) =
    all_cond P (named n) (numbered value named (n + 1) more) (is_value value used) (λ _. is n) (numbered_named P value named is (n + 1) more)

by_item_named : (value : ValueId) (item : Item) → AllByRecursion (λ a. IsNamed a item) (uses_by value item)
by_item_named value (BlockHead id) = tt
by_item_named value (PhiItem phi) = numbered_named (λ a. IsNamed a (PhiItem phi)) value (OfValue phi.value) (λ n. refl) 0 (uses (PhiItem phi))
by_item_named value (InstrItem instr) = numbered_named (λ a. IsNamed a (InstrItem instr)) value (source_of instr) (instr_named instr) 0 (reads instr)
by_item_named value (JumpItem jump) = tt
by_item_named value (IfHead id condition) = all_cond (λ a. IsNamed a (IfHead id condition)) (OfIf id) [] (is_value value condition) (λ _. refl) tt
by_item_named value (LoopHead id) = tt

-- of items that stand behind one another, no two are named alike
abbrev numbers : {K : Type 0} → (Item → List K) → (K → ℕ) → Item → List ℕ
numbers gives number item = map number (gives item)

distinct_back : (first second : List ℕ) → IsDistinct nat_eq (first ++ second) → IsDistinct nat_eq second
distinct_back [] second h = h
distinct_back (a ∷ first) second h = distinct_back first second (IsDistinct-tail nat_eq a (first ++ second) h)

not_itself : (n : ℕ) → nat_eq n n ≡ false → ⊥
not_itself n h = true≢false (sym (eq-eqb n n refl) ∙ h)

others_by : {K : Type 0} (gives : Item → List K) (number : K → ℕ) (k : K) (list : List Item) → AllByRecursion (λ m. nat_eq (number k) m ≡ false) (flat_map (numbers gives number) list)
    → AllByRecursion (λ other. gives other ≡ k ∷ [] → ⊥) list
others_by gives number k [] h = tt
others_by gives number k (item ∷ list) h =
    let here : AllByRecursion (λ m. nat_eq (number k) m ≡ false) (numbers gives number item) =
    all_front (λ m. nat_eq (number k) m ≡ false) (numbers gives number item) (flat_map (numbers gives number) list) h in (
      (λ e. not_itself (number k) (subst (λ (l : List _). AllByRecursion (λ m. nat_eq (number k) m ≡ false) (map number l)) e here).0),
      others_by gives number k list (all_back (λ m. nat_eq (number k) m ≡ false) (numbers gives number item) (flat_map (numbers gives number) list) h),
    )

others_than : {K : Type 0} (gives : Item → List K) (number : K → ℕ) (k : K) (item : Item) (list : List Item) → gives item ≡ k ∷ [] → IsDistinct nat_eq (flat_map (numbers gives number) (item ∷ list))
    → AllByRecursion (λ other. gives other ≡ k ∷ [] → ⊥) list
others_than gives number k item list is distinct =
    let front : IsDistinct nat_eq (number k ∷ flat_map (numbers gives number) list) = subst (λ (l : List _). IsDistinct nat_eq (map number l ++ flat_map (numbers gives number) list)) is distinct in
    others_by gives number k list (IsDistinct-head nat_eq (number k) (flat_map (numbers gives number) list) front)

record AreNamedOnce (list : List Item) : Type 0 where
  values : IsDistinct nat_eq (flat_map (numbers defines (λ id. id.0)) list)
  effects : IsDistinct nat_eq (flat_map (numbers effects_of (λ id. id.0)) list)
  ifs : IsDistinct nat_eq (flat_map (numbers ifs_of (λ id. id.0)) list)

rest_once : (item : Item) (list : List Item) → AreNamedOnce (item ∷ list) → AreNamedOnce list
rest_once item list once = record {
  values = distinct_back (numbers defines (λ id. id.0) item) (flat_map (numbers defines (λ id. id.0)) list) once.values;
  effects = distinct_back (numbers effects_of (λ id. id.0) item) (flat_map (numbers effects_of (λ id. id.0)) list) once.effects;
  ifs = distinct_back (numbers ifs_of (λ id. id.0) item) (flat_map (numbers ifs_of (λ id. id.0)) list) once.ifs;
}

others : (a : Use) (item : Item) (list : List Item) → IsNamed a item → AreNamedOnce (item ∷ list) → AllByRecursion (λ other. IsNamed a other → ⊥) list
others (OfValue id n) item list is once = others_than defines (λ x. x.0) id item list is once.values
others (OfEffect id n) item list is once = others_than effects_of (λ x. x.0) id item list is once.effects
others (OfIf id) item list is once = others_than ifs_of (λ x. x.0) id item list is once.ifs

differ : (value : ValueId) (a : Use) (list : List Item) → AllByRecursion (λ other. IsNamed a other → ⊥) list → AllByRecursion (λ b. a ≢ b) (flat_map (uses_by value) list)
differ value a [] h = tt
differ value a (other ∷ list) h =
    all_append (λ b. a ≢ b) (uses_by value other) (flat_map (uses_by value) list)
    (all_each (λ b. IsNamed b other) (λ b. a ≢ b) (λ b is e. h.0 (subst (λ (x : Use). IsNamed x other) (sym e) is)) (uses_by value other) (by_item_named value other))
    (differ value a list h.1)

listed_apart : (value : ValueId) (list : List Item) → AreNamedOnce list → apart (flat_map (uses_by value) list)
listed_apart value [] once = tt
listed_apart value (item ∷ list) once =
    apart_append (uses_by value item) (flat_map (uses_by value) list) (by_item_apart value item) (listed_apart value list (rest_once item list once))
    (all_each (λ a. IsNamed a item) (λ a. AllByRecursion (λ b. a ≢ b) (flat_map (uses_by value) list)) (λ a is. differ value a list (others a item list is once)) (uses_by value item) (by_item_named value item))

pub are_users : (s : Shader) → IsShaped s → (value : ValueId) → AreUsers value s.body (uses_in value s.body)
are_users s shaped value = record {
  all = listed_are value s.body [] (items s.body) refl;
  once = all_pairs (uses_in value s.body) (listed_apart value (items s.body) (record { values = shaped.values; effects = shaped.effects; ifs = shaped.ifs }));
  count = count_in value (items s.body);
}
