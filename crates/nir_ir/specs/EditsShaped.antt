-- What the replacement of one instruction keeps: the numbers that are defined, and that the shader is shaped.
use Rattle.std.specs.Prelude.{◌≡◌, ◌≢◌, refl, ℕ, ◌+◌, ◌<◌, ◌≤◌, ◌||◌, List, [], ◌∷◌, ◌++◌, map, Option, Some, None, Bool, true, false, cond, nat_eq, count_by, sum_by}
use Rattle.std.proofs.Common.{sym, ◌∙◌, ap, subst, zero-add, arith}
use lib.Dec.{lit≤}
use Rattle.std.proofs.lemmas.Bool.{cond-true, cond-false, eqb-true, eqb-false, eq-eqb, ne_eqb, true≢false}
use Rattle.std.proofs.lemmas.Grind.{flat_map-append}
use Rattle.std.proofs.lemmas.List.{append-nil}
use Rattle.std.proofs.lemmas.List.Concat.{flat_map_single}
use Rattle.std.proofs.lemmas.List.Folds.{flat_map-map}
use Rattle.std.proofs.lemmas.List.Sums.{sum_by-cons}
use Rattle.std.proofs.lemmas.Option.{none-some, same_Some}
use Rattle.std.specs.List.{AllByRecursion, IsDistinct, flat_map, find, list_any}
use Rattle.std.specs.Option.{option_to_list}
use Rattle.list_laws.specs.AllLaws.{all_append, all_back, all_front}
use Rattle.std.proofs.Math.Bool.{or-false}
use Rattle.std.proofs.lemmas.List.{map-append}
use Rattle.list_laws.specs.MapLaws.{flat_map-flat_map, flat_map-same}
use Rattle.nir_ir.specs.declared.ids.ValueId.{ValueId}
use Rattle.nir_ir.specs.declared.instr.Instr.{Instr}
use Rattle.nir_ir.specs.declared.instr.Instr.TheVariants.{Alu, Const, Undef, Input, Output, LoadBuf, StoreBuf}
use Rattle.nir_ir.specs.declared.node.Block.{Block}
use Rattle.nir_ir.specs.Nodes.{Nodes, Nil, BlockThen, IfThen, LoopThen}
use Rattle.nir_ir.specs.Items.{Item, BlockHead, PhiItem, InstrItem, JumpItem, IfHead, LoopHead, items, block_items, target, effect_of, reads, defines, uses, names_blocks, blocks_of, effects_of, ifs_of, loops_of, values_defined, values_used, blocks_defined, blocks_named, effects_defined, ifs_defined, loops_defined}
use Rattle.nir_ir.specs.Definitions.{phi_of, phis, instr_of, instrs, is_target, instr_defining, definition_count}
use Rattle.nir_ir.specs.Edits.{in_place_of, replaced_in_block, replaced}
use Rattle.nir_ir.specs.Shader.{Shader}
use Rattle.nir_ir.specs.Shaped.{IsOneOf, IsShaped, IsShapedInstr, IsShapedItem}

-- what stands in the place of an item
abbrev pub item_in_place : ValueId → List Instr → Item → List Item
item_in_place value news (BlockHead id) = BlockHead id ∷ []
item_in_place value news (PhiItem phi) = PhiItem phi ∷ []
item_in_place value news (InstrItem instr) = map InstrItem (in_place_of value news instr)
item_in_place value news (JumpItem jump) = JumpItem jump ∷ []
item_in_place value news (IfHead id condition) = IfHead id condition ∷ []
item_in_place value news (LoopHead id) = LoopHead id ∷ []

-- lists that are joined from lists
map-flat_map : {A B C : Type 0} (f : B → C) (g : A → List B) (list : List A) → map f (flat_map g list) ≡ flat_map (λ a. map f (g a)) list
map-flat_map f g [] = refl
map-flat_map f g (a ∷ list) = map-append f (g a) (flat_map g list) ∙ ap (λ t. map f (g a) ++ t) (map-flat_map f g list)

single : {A B : Type 0} (f : A → B) (place : B → List B) → ((a : A) → place (f a) ≡ f a ∷ []) → (list : List A) → flat_map place (map f list) ≡ map f list
single f place h list =
    flat_map-map place f list
    ∙ flat_map-same (λ a. place (f a)) (λ a. f a ∷ []) h list
    ∙ flat_map_single f list

alone : {A : Type 0} (list : List A) → flat_map (λ a. a ∷ []) list ≡ list
alone [] = refl
alone (a ∷ list) = ap (λ t. a ∷ t) (alone list)

block_items-replaced : (value : ValueId) (news : List Instr) (b : Block) → block_items (replaced_in_block value news b) ≡ flat_map (item_in_place value news) (block_items b)
block_items-replaced value news b =
    let place : Item → List Item = item_in_place value news in
    let heads : List Item = BlockHead b.id ∷ map PhiItem b.phis in
    let inner : List Item = map InstrItem b.instrs in
    let jumps : List Item = map JumpItem (option_to_list b.jump) in
    sym (flat_map-append place (heads ++ inner) jumps
    ∙ ap (λ t. t ++ flat_map place jumps) (flat_map-append place heads inner)
    ∙ ap (λ t. BlockHead b.id ∷ t ++ flat_map place inner ++ flat_map place jumps) (single PhiItem place (λ _. refl) b.phis)
    ∙ ap (λ t. heads ++ t ++ flat_map place jumps) (flat_map-map place InstrItem b.instrs ∙ sym (map-flat_map InstrItem (in_place_of value news) b.instrs))
    ∙ ap (λ t. heads ++ map InstrItem (flat_map (in_place_of value news) b.instrs) ++ t) (single JumpItem place (λ _. refl) (option_to_list b.jump)))

-- the items of a list in which instructions are replaced are those of the list, each in its place
pub items-replaced : (value : ValueId) (news : List Instr) (nodes : Nodes) → items (replaced value news nodes) ≡ flat_map (item_in_place value news) (items nodes)
items-replaced value news Nil = refl
items-replaced value news (BlockThen b rest) =
    ap (λ t. t ++ items (replaced value news rest)) (block_items-replaced value news b)
    ∙ ap (λ t. flat_map (item_in_place value news) (block_items b) ++ t) (items-replaced value news rest)
    ∙ sym (flat_map-append (item_in_place value news) (block_items b) (items rest))
items-replaced value news (IfThen id condition first second rest) =
    let place : Item → List Item = item_in_place value news in
    ap (λ t. IfHead id condition ∷ t ++ items (replaced value news second) ++ items (replaced value news rest)) (items-replaced value news first)
    ∙ ap (λ t. IfHead id condition ∷ flat_map place (items first) ++ t ++ items (replaced value news rest)) (items-replaced value news second)
    ∙ ap (λ t. IfHead id condition ∷ flat_map place (items first) ++ flat_map place (items second) ++ t) (items-replaced value news rest)
    ∙ sym (ap (λ t. IfHead id condition ∷ t) (flat_map-append place (items first ++ items second) (items rest)
    ∙ ap (λ t. t ++ flat_map place (items rest)) (flat_map-append place (items first) (items second))))
items-replaced value news (LoopThen id body rest) =
    let place : Item → List Item = item_in_place value news in
    ap (λ t. LoopHead id ∷ t ++ items (replaced value news rest)) (items-replaced value news body)
    ∙ ap (λ t. LoopHead id ∷ flat_map place (items body) ++ t) (items-replaced value news rest)
    ∙ sym (ap (λ t. LoopHead id ∷ t) (flat_map-append place (items body) (items rest)))

-- what each item gives, as the values that it defines
pub given-replaced : {A : Type 0} (gives : Item → List A) (value : ValueId) (news : List Instr) (nodes : Nodes) → flat_map gives (items (replaced value news nodes)) ≡ flat_map (λ item. flat_map gives (item_in_place value news item)) (items nodes)
given-replaced gives value news nodes = ap (flat_map gives) (items-replaced value news nodes) ∙ flat_map-flat_map (item_in_place value news) gives (items nodes)

-- an instruction that defines the value has it as its target
same_number : (a b : ValueId) → a.0 ≡ b.0 → a ≡ b
same_number a b e = let id : ℕ → ValueId = λ n. record { 0 = n } in ap id e

same_value : (value id : ValueId) → (nat_eq id.0 value.0 || false) ≡ true → id ≡ value
same_value value id h = same_number id value (eqb-true id.0 value.0 (sym (or-false (nat_eq id.0 value.0)) ∙ h))

is_target-Some : (value : ValueId) (found : Option ValueId) → list_any (λ id. nat_eq id.0 value.0) (option_to_list found) ≡ true → found ≡ Some value
is_target-Some value None h = absurd (true≢false (sym h))
is_target-Some value (Some id) h = ap Some (same_value value id h)

pub target_of : (value : ValueId) (instr : Instr) → is_target value instr ≡ true → target instr ≡ Some value
target_of value instr h = is_target-Some value (target instr) h

pub is_target-of : (value : ValueId) (instr : Instr) → target instr ≡ Some value → is_target value instr ≡ true
is_target-of value instr h =
    ap (λ found. list_any (λ id. nat_eq id.0 value.0) (option_to_list found)) h
    ∙ ap (λ test. test || false) (eq-eqb value.0 value.0 refl)

pub is_target-other : (value other : ValueId) (instr : Instr) → target instr ≡ Some value → other ≢ value → is_target other instr ≡ false
is_target-other value other instr h differ =
    ap (λ found. list_any (λ id. nat_eq id.0 other.0) (option_to_list found)) h
    ∙ ap (λ test. test || false) (ne_eqb value.0 other.0 (λ e. differ (sym (same_number value other e))))

-- what defines a value has no effect
pub no_effect : (instr : Instr) (value : ValueId) → target instr ≡ Some value → effect_of instr ≡ None
no_effect (Alu id op kind srcs) value h = refl
no_effect (Const id kind comps) value h = refl
no_effect (Undef id kind) value h = refl
no_effect (Input id kind slot) value h = refl
no_effect (Output effect slot src) value h = absurd (none-some value h)
no_effect (LoadBuf id kind buffer offset) value h = refl
no_effect (StoreBuf effect buffer offset src) value h = absurd (none-some value h)

-- an instruction in the place of one that defines the same value gives the same of what both give
pub given-kept : {A : Type 0} (gives : Item → List A) (value : ValueId) (new : Instr) → ((old : Instr) → is_target value old ≡ true → gives (InstrItem new) ≡ gives (InstrItem old)) → (nodes : Nodes) → flat_map gives (items (replaced value (new ∷ []) nodes)) ≡ flat_map gives (items nodes)
given-kept {A} gives value new same nodes = given-replaced gives value (new ∷ []) nodes ∙ flat_map-same (λ item. flat_map gives (item_in_place value (new ∷ []) item)) gives item_same (items nodes) where
  instr_same : (old : Instr) (found : Bool) → is_target value old ≡ found → flat_map gives (map InstrItem (cond found (new ∷ []) (old ∷ []))) ≡ gives (InstrItem old)
  instr_same old true is = append-nil (gives (InstrItem new)) ∙ same old is
  instr_same old false is = append-nil (gives (InstrItem old))

  item_same : (item : Item) → flat_map gives (item_in_place value (new ∷ []) item) ≡ gives item
  item_same (BlockHead id) = append-nil (gives (BlockHead id))
  item_same (PhiItem phi) = append-nil (gives (PhiItem phi))
  item_same (InstrItem old) = instr_same old (is_target value old) refl
  item_same (JumpItem jump) = append-nil (gives (JumpItem jump))
  item_same (IfHead id condition) = append-nil (gives (IfHead id condition))
  item_same (LoopHead id) = append-nil (gives (LoopHead id))

pub values_defined-replaced : (value : ValueId) (new : Instr) → target new ≡ Some value → (nodes : Nodes) → values_defined (replaced value (new ∷ []) nodes) ≡ values_defined nodes
values_defined-replaced value new is nodes =
    given-kept (λ item. map (λ id. id.0) (defines item)) value new (λ old h. ap (λ found. map (λ id. id.0) (option_to_list found)) (is ∙ sym (target_of value old h))) nodes

pub effects_defined-replaced : (value : ValueId) (new : Instr) → target new ≡ Some value → (nodes : Nodes) → effects_defined (replaced value (new ∷ []) nodes) ≡ effects_defined nodes
effects_defined-replaced value new is nodes =
    given-kept (λ item. map (λ id. id.0) (effects_of item)) value new (λ old h. ap (λ found. map (λ id. id.0) (option_to_list found)) (no_effect new value is ∙ sym (no_effect old value (target_of value old h)))) nodes

pub blocks_defined-replaced : (value : ValueId) (new : Instr) (nodes : Nodes) → blocks_defined (replaced value (new ∷ []) nodes) ≡ blocks_defined nodes
blocks_defined-replaced value new nodes = given-kept (λ item. map (λ id. id.0) (blocks_of item)) value new (λ _ _. refl) nodes

pub blocks_named-replaced : (value : ValueId) (new : Instr) (nodes : Nodes) → blocks_named (replaced value (new ∷ []) nodes) ≡ blocks_named nodes
blocks_named-replaced value new nodes = given-kept (λ item. map (λ id. id.0) (names_blocks item)) value new (λ _ _. refl) nodes

pub ifs_defined-replaced : (value : ValueId) (new : Instr) (nodes : Nodes) → ifs_defined (replaced value (new ∷ []) nodes) ≡ ifs_defined nodes
ifs_defined-replaced value new nodes = given-kept (λ item. map (λ id. id.0) (ifs_of item)) value new (λ _ _. refl) nodes

pub loops_defined-replaced : (value : ValueId) (new : Instr) (nodes : Nodes) → loops_defined (replaced value (new ∷ []) nodes) ≡ loops_defined nodes
loops_defined-replaced value new nodes = given-kept (λ item. map (λ id. id.0) (loops_of item)) value new (λ _ _. refl) nodes

-- what holds of all that is given, and of what the new instruction gives, holds of all that is given then
pub all_given-replaced : {A : Type 0} (P : A → Type 0) (gives : Item → List A) (value : ValueId) (new : Instr) → AllByRecursion P (gives (InstrItem new)) → (nodes : Nodes) → AllByRecursion P (flat_map gives (items nodes)) → AllByRecursion P (flat_map gives (items (replaced value (new ∷ []) nodes)))
all_given-replaced {A} P gives value new here nodes h = subst (AllByRecursion P) (sym (given-replaced gives value (new ∷ []) nodes)) (along (items nodes) h) where
  instr_in_place : (old : Instr) (found : Bool) → AllByRecursion P (gives (InstrItem old)) → AllByRecursion P (flat_map gives (map InstrItem (cond found (new ∷ []) (old ∷ []))))
  instr_in_place old true g = all_append P (gives (InstrItem new)) [] here tt
  instr_in_place old false g = all_append P (gives (InstrItem old)) [] g tt

  in_place : (item : Item) → AllByRecursion P (gives item) → AllByRecursion P (flat_map gives (item_in_place value (new ∷ []) item))
  in_place (BlockHead id) g = all_append P (gives (BlockHead id)) [] g tt
  in_place (PhiItem phi) g = all_append P (gives (PhiItem phi)) [] g tt
  in_place (InstrItem old) g = instr_in_place old (is_target value old) g
  in_place (JumpItem jump) g = all_append P (gives (JumpItem jump)) [] g tt
  in_place (IfHead id condition) g = all_append P (gives (IfHead id condition)) [] g tt
  in_place (LoopHead id) g = all_append P (gives (LoopHead id)) [] g tt

  along : (list : List Item) → AllByRecursion P (flat_map gives list) → AllByRecursion P (flat_map (λ item. flat_map gives (item_in_place value (new ∷ []) item)) list)
  along [] g = tt
  along (item ∷ list) g =
      all_append P (flat_map gives (item_in_place value (new ∷ []) item)) (flat_map (λ i. flat_map gives (item_in_place value (new ∷ []) i)) list)
      (in_place item (all_front P (gives item) (flat_map gives list) g))
      (along list (all_back P (gives item) (flat_map gives list) g))

-- a shader stays shaped where an instruction that reads what is defined takes the place of one that defines the same value
pub IsShaped-replaced : (s : Shader) (value : ValueId) (new : Instr) → target new ≡ Some value → AllByRecursion (IsOneOf (values_defined s.body)) (map (λ id. id.0) (reads new)) → IsShapedInstr new → IsShaped s → IsShaped (record s { body = replaced value (new ∷ []) s.body })
IsShaped-replaced s value new is reads_defined shaped_new shaped = record {
  values = subst (IsDistinct nat_eq) (sym (values_defined-replaced value new is s.body)) shaped.values;
  blocks = subst (IsDistinct nat_eq) (sym (blocks_defined-replaced value new s.body)) shaped.blocks;
  effects = subst (IsDistinct nat_eq) (sym (effects_defined-replaced value new is s.body)) shaped.effects;
  ifs = subst (IsDistinct nat_eq) (sym (ifs_defined-replaced value new s.body)) shaped.ifs;
  loops = subst (IsDistinct nat_eq) (sym (loops_defined-replaced value new s.body)) shaped.loops;
  below = subst (AllByRecursion (λ v. v < s.next_value)) (sym (values_defined-replaced value new is s.body)) shaped.below;
  uses = subst (λ (defined : List ℕ). AllByRecursion (IsOneOf defined) (values_used (replaced value (new ∷ []) s.body))) (sym (values_defined-replaced value new is s.body))
      (all_given-replaced (IsOneOf (values_defined s.body)) (λ item. map (λ id. id.0) (uses item)) value new reads_defined s.body shaped.uses);
  names = subst (λ (named : List ℕ). AllByRecursion (IsOneOf (blocks_defined (replaced value (new ∷ []) s.body))) named) (sym (blocks_named-replaced value new s.body))
      (subst (λ (defined : List ℕ). AllByRecursion (IsOneOf defined) (blocks_named s.body)) (sym (blocks_defined-replaced value new s.body)) shaped.names);
  items = subst (AllByRecursion IsShapedItem) (alone (items (replaced value (new ∷ []) s.body)))
      (all_given-replaced IsShapedItem (λ item. item ∷ []) value new (shaped_new, tt) s.body (subst (AllByRecursion IsShapedItem) (sym (alone (items s.body))) shaped.items));
  inputs = shaped.inputs;
  outputs = shaped.outputs;
}

-- how many of a list pass a test
pub count_by-cons : {A : Type 0} (test : A → Bool) (a : A) (list : List A) → count_by test (a ∷ list) ≡ cond (test a) 1 0 + count_by test list
count_by-cons test a list = sum_by-cons (λ x. cond (test x) 1 0) a list

count_by-no : {A : Type 0} (test : A → Bool) (a : A) (list : List A) → test a ≡ false → count_by test (a ∷ list) ≡ count_by test list
count_by-no test a list h = count_by-cons test a list ∙ ap (λ n. n + count_by test list) (cond-false {A = ℕ} (test a) 1 0 h) ∙ zero-add (count_by test list)

count_by-yes : {A : Type 0} (test : A → Bool) (a : A) (list : List A) → test a ≡ true → count_by test (a ∷ list) ≡ 1 + count_by test list
count_by-yes test a list h = count_by-cons test a list ∙ ap (λ n. n + count_by test list) (cond-true {A = ℕ} (test a) 1 0 h)

-- distinct numbers: at most one instruction defines a value
abbrev numbers : Item → List ℕ
numbers item = map (λ id. id.0) (defines item)

differ_back : (a b : ℕ) → nat_eq a b ≡ false → nat_eq b a ≡ false
differ_back a b h = ne_eqb b a (λ e. eqb-false a b h (sym e))

unmet_target : (value : ValueId) (found : Option ValueId) (rest : List ℕ) → AllByRecursion (λ n. nat_eq value.0 n ≡ false) (map (λ id. id.0) (option_to_list found) ++ rest) → list_any (λ id. nat_eq id.0 value.0) (option_to_list found) ≡ false
unmet_target value None rest h = refl
unmet_target value (Some id) rest h = ap (λ test. test || false) (differ_back value.0 id.0 h.0)

unmet : (value : ValueId) (list : List Item) → AllByRecursion (λ n. nat_eq value.0 n ≡ false) (flat_map numbers list) → count_by (is_target value) (flat_map instr_of list) ≡ 0
unmet value [] h = refl
unmet value (BlockHead id ∷ list) h = unmet value list h
unmet value (PhiItem phi ∷ list) h = unmet value list h.1
unmet value (InstrItem instr ∷ list) h =
    count_by-no (is_target value) instr (flat_map instr_of list) (unmet_target value (target instr) (flat_map numbers list) h)
    ∙ unmet value list (all_back (λ n. nat_eq value.0 n ≡ false) (map (λ id. id.0) (option_to_list (target instr))) (flat_map numbers list) h)
unmet value (JumpItem jump ∷ list) h = unmet value list h
unmet value (IfHead id condition ∷ list) h = unmet value list h
unmet value (LoopHead id ∷ list) h = unmet value list h

distinct_back : (first second : List ℕ) → IsDistinct nat_eq (first ++ second) → IsDistinct nat_eq second
unfolding IsDistinct
distinct_back [] second h = h
distinct_back (a ∷ first) second h = distinct_back first second h.1

distinct_head : (a : ℕ) (list : List ℕ) → IsDistinct nat_eq (a ∷ list) → AllByRecursion (λ n. nat_eq a n ≡ false) list
unfolding IsDistinct
distinct_head a list h = h.0

once : (value : ValueId) (list : List Item) → IsDistinct nat_eq (flat_map numbers list) → count_by (is_target value) (flat_map instr_of list) ≤ 1
once value [] h = lit≤ tt
once value (BlockHead id ∷ list) h = once value list h
once value (PhiItem phi ∷ list) h = once value list (distinct_back (phi.value.0 ∷ []) (flat_map numbers list) h)
once value (InstrItem instr ∷ list) h =
    by_test (is_target value instr) refl (once value list (distinct_back (map (λ id. id.0) (option_to_list (target instr))) (flat_map numbers list) h))
  where
    by_test : (found : Bool) → is_target value instr ≡ found → count_by (is_target value) (flat_map instr_of list) ≤ 1 → count_by (is_target value) (instr ∷ flat_map instr_of list) ≤ 1
    by_test true is rest =
        let first : IsDistinct nat_eq (value.0 ∷ flat_map numbers list) = subst (λ (found : Option ValueId). IsDistinct nat_eq (map (λ id. id.0) (option_to_list found) ++ flat_map numbers list)) (target_of value instr is) h in
        let none : count_by (is_target value) (flat_map instr_of list) ≡ 0 = unmet value list (distinct_head value.0 (flat_map numbers list) first) in
        subst (λ (n : ℕ). n ≤ 1) (sym (count_by-yes (is_target value) instr (flat_map instr_of list) is ∙ ap (λ n. 1 + n) none)) (lit≤ tt)
    by_test false is rest = subst (λ (n : ℕ). n ≤ 1) (sym (count_by-no (is_target value) instr (flat_map instr_of list) is)) rest
once value (JumpItem jump ∷ list) h = once value list h
once value (IfHead id condition ∷ list) h = once value list h
once value (LoopHead id ∷ list) h = once value list h

pub definition_count-once : (value : ValueId) (nodes : Nodes) → IsDistinct nat_eq (values_defined nodes) → definition_count value nodes ≤ 1
definition_count-once value nodes distinct = once value (items nodes) distinct

-- the instructions of a list in which instructions are replaced
pub instrs-replaced : (value : ValueId) (news : List Instr) (nodes : Nodes) → instrs (replaced value news nodes) ≡ flat_map (in_place_of value news) (instrs nodes)
instrs-replaced value news nodes =
    given-replaced instr_of value news nodes
    ∙ flat_map-same (λ item. flat_map instr_of (item_in_place value news item)) (λ item. flat_map (in_place_of value news) (instr_of item)) in_item (items nodes)
    ∙ sym (flat_map-flat_map instr_of (in_place_of value news) (items nodes))
  where
    in_item : (item : Item) → flat_map instr_of (item_in_place value news item) ≡ flat_map (in_place_of value news) (instr_of item)
    in_item (BlockHead id) = refl
    in_item (PhiItem phi) = refl
    in_item (InstrItem instr) =
        flat_map-map instr_of InstrItem (in_place_of value news instr)
        ∙ alone (in_place_of value news instr)
        ∙ sym (append-nil (in_place_of value news instr))
    in_item (JumpItem jump) = refl
    in_item (IfHead id condition) = refl
    in_item (LoopHead id) = refl

-- where nothing defines the value, nothing changes
pub unchanged : (value : ValueId) (news list : List Instr) → count_by (is_target value) list ≡ 0 → flat_map (in_place_of value news) list ≡ list
unchanged value news [] h = refl
unchanged value news (instr ∷ list) h = by_test (is_target value instr) refl (unchanged value news list) where
  by_test : (found : Bool) → is_target value instr ≡ found → (count_by (is_target value) list ≡ 0 → flat_map (in_place_of value news) list ≡ list) → in_place_of value news instr ++ flat_map (in_place_of value news) list ≡ instr ∷ list
  by_test true is rest =
      let some : 1 + count_by (is_target value) list ≡ 0 = sym (count_by-yes (is_target value) instr list is) ∙ h in
      absurd (omega arith)
  by_test false is rest =
      ap (λ t. t ++ flat_map (in_place_of value news) list) (cond-false (is_target value instr) news (instr ∷ []) is)
      ∙ ap (λ t. instr ∷ t) (rest (sym (count_by-no (is_target value) instr list is) ∙ h))

-- what an instruction is replaced by, where it is known whether it defines the value
in_place-yes : (value : ValueId) (news : List Instr) (instr : Instr) (list : List Instr) → is_target value instr ≡ true → flat_map (in_place_of value news) (instr ∷ list) ≡ news ++ flat_map (in_place_of value news) list
in_place-yes value news instr list is = ap (λ t. t ++ flat_map (in_place_of value news) list) (cond-true (is_target value instr) news (instr ∷ []) is)

in_place-no : (value : ValueId) (news : List Instr) (instr : Instr) (list : List Instr) → is_target value instr ≡ false → flat_map (in_place_of value news) (instr ∷ list) ≡ instr ∷ flat_map (in_place_of value news) list
in_place-no value news instr list is = ap (λ t. t ++ flat_map (in_place_of value news) list) (cond-false (is_target value instr) news (instr ∷ []) is)

find-yes : {A : Type 0} (test : A → Bool) (a : A) (list : List A) → test a ≡ true → find test (a ∷ list) ≡ Some a
find-yes test a list is = cond-true (test a) (Some a) (find test list) is

find-no : {A : Type 0} (test : A → Bool) (a : A) (list : List A) → test a ≡ false → find test (a ∷ list) ≡ find test list
find-no test a list is = cond-false (test a) (Some a) (find test list) is

-- the new instruction defines the value in place of the old one
find_new : (value : ValueId) (new old : Instr) → is_target value new ≡ true → (list : List Instr) → find (is_target value) list ≡ Some old → find (is_target value) (flat_map (in_place_of value (new ∷ [])) list) ≡ Some new
find_new value new old is [] found = absurd (none-some old found)
find_new value new old is (instr ∷ list) found = by_test (is_target value instr) refl (find_new value new old is list) where
  by_test : (here : Bool) → is_target value instr ≡ here → (find (is_target value) list ≡ Some old → find (is_target value) (flat_map (in_place_of value (new ∷ [])) list) ≡ Some new) → find (is_target value) (flat_map (in_place_of value (new ∷ [])) (instr ∷ list)) ≡ Some new
  by_test true h rest =
      ap (find (is_target value)) (in_place-yes value (new ∷ []) instr list h)
      ∙ find-yes (is_target value) new (flat_map (in_place_of value (new ∷ [])) list) is
  by_test false h rest =
      ap (find (is_target value)) (in_place-no value (new ∷ []) instr list h)
      ∙ find-no (is_target value) instr (flat_map (in_place_of value (new ∷ [])) list) h
      ∙ rest (sym (find-no (is_target value) instr list h) ∙ found)

pub instr_defining-replaced : (value : ValueId) (new old : Instr) → target new ≡ Some value → (nodes : Nodes) → instr_defining value nodes ≡ Some old → instr_defining value (replaced value (new ∷ []) nodes) ≡ Some new
instr_defining-replaced value new old is nodes found =
    ap (find (is_target value)) (instrs-replaced value (new ∷ []) nodes)
    ∙ find_new value new old (is_target-of value new is) (instrs nodes) found

-- and every other value keeps the instruction that defines it
find_other : (value other : ValueId) (new : Instr) → target new ≡ Some value → other ≢ value → (list : List Instr) → find (is_target other) (flat_map (in_place_of value (new ∷ [])) list) ≡ find (is_target other) list
find_other value other new is differ [] = refl
find_other value other new is differ (instr ∷ list) = by_test (is_target value instr) refl (find_other value other new is differ list) where
  by_test : (here : Bool) → is_target value instr ≡ here → find (is_target other) (flat_map (in_place_of value (new ∷ [])) list) ≡ find (is_target other) list → find (is_target other) (flat_map (in_place_of value (new ∷ [])) (instr ∷ list)) ≡ find (is_target other) (instr ∷ list)
  by_test true h rest =
      ap (find (is_target other)) (in_place-yes value (new ∷ []) instr list h)
      ∙ find-no (is_target other) new (flat_map (in_place_of value (new ∷ [])) list) (is_target-other value other new is differ)
      ∙ rest
      ∙ sym (find-no (is_target other) instr list (is_target-other value other instr (target_of value instr h) differ))
  by_test false h rest =
      ap (find (is_target other)) (in_place-no value (new ∷ []) instr list h)
      ∙ ap (λ found. cond (is_target other instr) (Some instr) found) rest

pub instr_defining-replaced_other : (value other : ValueId) (new : Instr) → target new ≡ Some value → other ≢ value → (nodes : Nodes) → instr_defining other (replaced value (new ∷ []) nodes) ≡ instr_defining other nodes
instr_defining-replaced_other value other new is differ nodes =
    ap (find (is_target other)) (instrs-replaced value (new ∷ []) nodes)
    ∙ find_other value other new is differ (instrs nodes)

-- the phis are as they were
pub phis-replaced : (value : ValueId) (new : Instr) (nodes : Nodes) → phis (replaced value (new ∷ []) nodes) ≡ phis nodes
phis-replaced value new nodes = given-kept phi_of value new (λ _ _. refl) nodes

-- a sum over the instructions changes by what the two count
exchanged : (whole first rest changed new old : ℕ) → whole ≡ first + rest → rest + new ≡ changed + old → whole + new ≡ first + changed + old
exchanged whole first rest changed new old split h = omega arith

swapped : (whole changed first rest new old : ℕ) → whole ≡ first + rest → changed ≡ new + rest → first ≡ old → whole + new ≡ changed + old
swapped whole changed first rest new old a b e = omega arith

sum_new : (f : Instr → ℕ) (value : ValueId) (new old : Instr) (list : List Instr) → count_by (is_target value) list ≤ 1 → find (is_target value) list ≡ Some old → sum_by f list + f new ≡ sum_by f (flat_map (in_place_of value (new ∷ [])) list) + f old
sum_new f value new old [] few found = absurd (none-some old found)
sum_new f value new old (instr ∷ list) few found = by_test (is_target value instr) refl (sum_new f value new old list) where
  by_test : (here : Bool) → is_target value instr ≡ here
      → (count_by (is_target value) list ≤ 1 → find (is_target value) list ≡ Some old → sum_by f list + f new ≡ sum_by f (flat_map (in_place_of value (new ∷ [])) list) + f old)
      → sum_by f (instr ∷ list) + f new ≡ sum_by f (flat_map (in_place_of value (new ∷ [])) (instr ∷ list)) + f old
  by_test true h rest =
      let some : 1 + count_by (is_target value) list ≤ 1 = subst (λ (n : ℕ). n ≤ 1) (count_by-yes (is_target value) instr list h) few in
      let none : count_by (is_target value) list ≡ 0 = omega arith in
      let placed : flat_map (in_place_of value (new ∷ [])) (instr ∷ list) ≡ new ∷ list = in_place-yes value (new ∷ []) instr list h ∙ ap (λ t. new ∷ t) (unchanged value (new ∷ []) list none) in
      let same : instr ≡ old = same_Some instr old (sym (find-yes (is_target value) instr list h) ∙ found) in
      swapped (sum_by f (instr ∷ list)) (sum_by f (flat_map (in_place_of value (new ∷ [])) (instr ∷ list))) (f instr) (sum_by f list) (f new) (f old) (sum_by-cons f instr list) (ap (sum_by f) placed ∙ sum_by-cons f new list) (ap f same)
  by_test false h rest =
      exchanged (sum_by f (instr ∷ list)) (f instr) (sum_by f list) (sum_by f (flat_map (in_place_of value (new ∷ [])) list)) (f new) (f old) (sum_by-cons f instr list)
      (rest (subst (λ (n : ℕ). n ≤ 1) (count_by-no (is_target value) instr list h) few) (sym (find-no (is_target value) instr list h) ∙ found))
      ∙ ap (λ n. n + f old) (sym (ap (sum_by f) (in_place-no value (new ∷ []) instr list h) ∙ sum_by-cons f instr (flat_map (in_place_of value (new ∷ [])) list)))

pub sum_by-replaced : (f : Instr → ℕ) (value : ValueId) (new old : Instr) (nodes : Nodes) → IsDistinct nat_eq (values_defined nodes) → instr_defining value nodes ≡ Some old → sum_by f (instrs nodes) + f new ≡ sum_by f (instrs (replaced value (new ∷ []) nodes)) + f old
sum_by-replaced f value new old nodes distinct found =
    sum_new f value new old (instrs nodes) (definition_count-once value nodes distinct) found
    ∙ ap (λ list. sum_by f list + f old) (sym (instrs-replaced value (new ∷ []) nodes))
