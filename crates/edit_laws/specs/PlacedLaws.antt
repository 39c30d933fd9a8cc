-- Instructions in the place of the one that defines a value: the shader stays shaped.
use Rattle.std.specs.Prelude.{◌≡◌, refl, ℕ, ◌<◌, ◌≤◌, nat_eq, List, [], ◌∷◌, ◌++◌, length, map, Option, Some}
use Rattle.std.specs.List.{AllByRecursion, IsDistinct, flat_map, range_with_len}
use Rattle.std.specs.Option.{option_to_list}
use Rattle.std.proofs.Common.{◌⊎◌, inl, inr, sym, ◌∙◌, ap, arith, subst, ⊎_elim}
use Rattle.std.proofs.lemmas.Grind.{flat_map-append}
use Rattle.std.proofs.lemmas.List.Folds.{flat_map-map}
use Rattle.std.proofs.lemmas.Bool.{true≢false}
use Rattle.list_laws.specs.AllLaws.{all_append, all_each}
use Rattle.nir_ir.specs.declared.ids.ValueId.{ValueId}
use Rattle.nir_ir.specs.declared.instr.Instr.{Instr}
use Rattle.nir_ir.specs.Definitions.{instr_defining}
use Rattle.nir_ir.specs.Edits.{ArePlaced, replaced, with_news}
use Rattle.nir_ir.specs.EditsShaped.{no_effect, target_of}
use Rattle.nir_ir.specs.Items.{Item, InstrItem, effects_defined, blocks_defined, blocks_named, effects_of, items, reads, target, uses, values_defined, values_used}
use Rattle.nir_ir.specs.Nodes.{Nodes}
use Rattle.nir_ir.specs.Shaped.{IsOneOf, IsShaped, IsShapedInstr, IsShapedItem}
use Rattle.nir_ir.specs.Shader.{Shader}
use Rattle.edit_laws.specs.ItemsLaws.{all_given, blocks_defined-placed, blocks_named-placed, given-still, ifs_defined-placed, loops_defined-placed, target_numbers, value_defined, values_defined-placed}
use Rattle.edit_laws.specs.NumbersLaws.{GivesWay, given_way, gives_distinct, gives_kept, gives_member, gives_new, member_has, members_have, one_of-append, one_of-cons, range-within, row_gives}

-- ---- the numbers that they define

pub numbers_from : (front : List Instr) (row : List ℕ) → map target front ≡ map (λ n. Some (record { 0 = n })) row → flat_map target_numbers front ≡ row
numbers_from front row is =
    sym (flat_map-map (λ (found : Option ValueId). map (λ (id : ValueId). id.0) (option_to_list found)) target front)
    ∙ ap (flat_map (λ (found : Option ValueId). map (λ (id : ValueId). id.0) (option_to_list found))) is
    ∙ flat_map-map (λ (found : Option ValueId). map (λ (id : ValueId). id.0) (option_to_list found)) (λ n. Some (record { 0 = n })) row
    ∙ alone row
  where
    alone : (list : List ℕ) → flat_map (λ n. n ∷ []) list ≡ list
    alone [] = refl
    alone (n ∷ list) = ap (λ t. n ∷ t) (alone list)

last_number : (last : Instr) (value : ValueId) → target last ≡ Some value → flat_map target_numbers (last ∷ []) ≡ value.0 ∷ []
last_number last value root = ap (λ found. map (λ (id : ValueId). id.0) (option_to_list found) ++ []) root

pub placed_numbers : (next after : ℕ) (value : ValueId) (news : List Instr) (placed : ArePlaced next after value news) → flat_map target_numbers news ≡ range_with_len next (length placed.front) ++ value.0 ∷ []
placed_numbers next after value news placed =
    ap (flat_map target_numbers) placed.are
    ∙ flat_map-append target_numbers placed.front (placed.last ∷ [])
    ∙ ap (λ t. t ++ flat_map target_numbers (placed.last ∷ [])) (numbers_from placed.front (range_with_len next (length placed.front)) placed.fresh)
    ∙ ap (λ t. range_with_len next (length placed.front) ++ t) (last_number placed.last value placed.root)

pub placed_gives : (next after : ℕ) (value : ValueId) (news : List Instr) → ArePlaced next after value news → value.0 < next → GivesWay value.0 next (flat_map target_numbers news)
placed_gives next after value news placed less = subst (GivesWay value.0 next) (sym (placed_numbers next after value news placed)) (row_gives value.0 next (length placed.front) less)

-- each new number is fresh or the value's
pub placed_within : (next after : ℕ) (value : ValueId) (news : List Instr) (placed : ArePlaced next after value news) (n : ℕ) → IsOneOf (flat_map target_numbers news) n → (n ≡ value.0) ⊎ ((next ≤ n) × (n < after))
placed_within next after value news placed n is =
    ⊎_elim
    (λ in_row. let within = range-within next (length placed.front) n in_row in let high = within.1 in let counted = placed.counted in inr (within.0, omega (arith, high, counted)))
    (λ at_end. inl (⊎_elim (λ same. same) (λ none. absurd (empty n none)) (one_of-cons value.0 [] n at_end)))
    (one_of-append (range_with_len next (length placed.front)) (value.0 ∷ []) n (subst (λ list. IsOneOf list n) (placed_numbers next after value news placed) is))
  where
    empty : (n : ℕ) → IsOneOf [] n → ⊥
    empty n is = true≢false (sym is)

-- ---- each instruction has a target, and so no effect

abbrev pub Defines : Instr → Type 0
Defines instr = (id : ValueId) × (target instr ≡ Some id)

all_define : (front : List Instr) (row : List ℕ) → map target front ≡ map (λ n. Some (record { 0 = n })) row → AllByRecursion Defines front
all_define [] row is = tt
all_define (instr ∷ front) [] is = absurd (cc)
all_define (instr ∷ front) (n ∷ row) is = ((record { 0 = n }, first_of (target instr) (map target front) (Some (record { 0 = n })) (map (λ m. Some (record { 0 = m })) row) is), all_define front row (rest_of (target instr) (map target front) (Some (record { 0 = n })) (map (λ m. Some (record { 0 = m })) row) is)) where
  first_of : (a : Option ValueId) (as_ : List (Option ValueId)) (b : Option ValueId) (bs : List (Option ValueId)) → a ∷ as_ ≡ b ∷ bs → a ≡ b
  first_of a as_ b bs h = cc

  rest_of : (a : Option ValueId) (as_ : List (Option ValueId)) (b : Option ValueId) (bs : List (Option ValueId)) → a ∷ as_ ≡ b ∷ bs → as_ ≡ bs
  rest_of a as_ b bs h = cc

pub placed_define : (next after : ℕ) (value : ValueId) (news : List Instr) → ArePlaced next after value news → AllByRecursion Defines news
placed_define next after value news placed =
    subst (AllByRecursion Defines) (sym placed.are)
    (all_append Defines placed.front (placed.last ∷ []) (all_define placed.front (range_with_len next (length placed.front)) placed.fresh) ((value, placed.root), tt))

without_effects : (news : List Instr) → AllByRecursion Defines news → AllByRecursion (λ new. map (λ id. id.0) (effects_of (InstrItem new)) ≡ []) news
without_effects news define =
    all_each Defines (λ new. map (λ id. id.0) (effects_of (InstrItem new)) ≡ []) (λ new is. ap (λ found. map (λ id. id.0) (option_to_list found)) (no_effect new is.0 is.1)) news define

effects_defined-placed : (value : ValueId) (news : List Instr) → AllByRecursion Defines news → (nodes : Nodes) → effects_defined (replaced value news nodes) ≡ effects_defined nodes
effects_defined-placed value news define nodes =
    given-still (λ item. map (λ id. id.0) (effects_of item)) value news (without_effects news define)
    (λ old is. ap (λ found. map (λ id. id.0) (option_to_list found)) (no_effect old value (target_of value old is))) nodes

-- ---- shaped

-- what the instructions read is defined in the shader, or by one of them
abbrev pub ReadsDefined : Shader → List Instr → Type 0
ReadsDefined s news = AllByRecursion (λ new. AllByRecursion (λ id. IsOneOf (values_defined s.body) id.0 ⊎ IsOneOf (flat_map target_numbers news) id.0) (reads new)) news

pub record AreShaped (s : Shader) (news : List Instr) : Type 0 where
  pub reads : ReadsDefined s news
  pub each : AllByRecursion IsShapedInstr news

-- a shader stays shaped where instructions that read what is defined there stand in the place of one that defines a value
abbrev pub ShapedPlaced : Type 0
ShapedPlaced = (s : Shader) (value : ValueId) (old : Instr) (news : List Instr) (after : ℕ) → IsShaped s → instr_defining value s.body ≡ Some old → ArePlaced s.next_value after value news → AreShaped s news
    → IsShaped (with_news s value news after)

pub shaped_placed : ShapedPlaced
shaped_placed s value old news after shaped found placed parts =
    let numbers : List ℕ = flat_map target_numbers news in
    let defined : List ℕ = flat_map (given_way value.0 numbers) (values_defined s.body) in
    let is : values_defined (replaced value news s.body) ≡ defined = values_defined-placed value old news s.body shaped.values found in
    let among : IsOneOf (values_defined s.body) value.0 = value_defined value old s.body found in
    let less : value.0 < s.next_value = member_has (λ v. v < s.next_value) (values_defined s.body) value.0 shaped.below among in
    let gives : GivesWay value.0 s.next_value numbers = placed_gives s.next_value after value news placed less in
    let define : AllByRecursion Defines news = placed_define s.next_value after value news placed in
    let kept : (k : ℕ) → IsOneOf (values_defined s.body) k → IsOneOf defined k = gives_kept value.0 s.next_value numbers gives (values_defined s.body) in
    let new : (k : ℕ) → IsOneOf numbers k → IsOneOf defined k = gives_new value.0 numbers (values_defined s.body) among in
    record {
      values = subst (IsDistinct nat_eq) (sym is) (gives_distinct value.0 s.next_value numbers gives (values_defined s.body) shaped.values shaped.below);
      blocks = subst (IsDistinct nat_eq) (sym (blocks_defined-placed value news s.body)) shaped.blocks;
      effects = subst (IsDistinct nat_eq) (sym (effects_defined-placed value news define s.body)) shaped.effects;
      ifs = subst (IsDistinct nat_eq) (sym (ifs_defined-placed value news s.body)) shaped.ifs;
      loops = subst (IsDistinct nat_eq) (sym (loops_defined-placed value news s.body)) shaped.loops;
      below = subst (AllByRecursion (λ v. v < after)) (sym is) (members_have (λ v. v < after) defined (λ k in_defined. low s value news after placed shaped less k (gives_member value.0 numbers (values_defined s.body) k in_defined)));
      uses = subst (λ list. AllByRecursion (IsOneOf list) (values_used (replaced value news s.body))) (sym is)
          (all_given (IsOneOf defined) (λ item. map (λ id. id.0) (uses item)) value news
          (all_each (λ n. AllByRecursion (λ id. IsOneOf (values_defined s.body) id.0 ⊎ IsOneOf numbers id.0) (reads n)) (λ n. AllByRecursion (IsOneOf defined) (map (λ id. id.0) (uses (InstrItem n))))
          (λ n all. reads_there defined (values_defined s.body) numbers kept new (reads n) all) news parts.reads)
          s.body (all_each (IsOneOf (values_defined s.body)) (IsOneOf defined) kept (values_used s.body) shaped.uses));
      names = subst (λ (named : List ℕ). AllByRecursion (IsOneOf (blocks_defined (replaced value news s.body))) named) (sym (blocks_named-placed value news s.body))
          (subst (λ (list : List ℕ). AllByRecursion (IsOneOf list) (blocks_named s.body)) (sym (blocks_defined-placed value news s.body)) shaped.names);
      items = subst (AllByRecursion IsShapedItem) (alone (items (replaced value news s.body)))
          (all_given IsShapedItem (λ item. item ∷ []) value news (all_each IsShapedInstr (λ n. AllByRecursion IsShapedItem (InstrItem n ∷ [])) (λ n h. (h, tt)) news parts.each) s.body
          (subst (AllByRecursion IsShapedItem) (sym (alone (items s.body))) shaped.items));
      inputs = shaped.inputs;
      outputs = shaped.outputs;
    }
  where
    low : (s : Shader) (value : ValueId) (news : List Instr) (after : ℕ) → ArePlaced s.next_value after value news → IsShaped s → value.0 < s.next_value → (k : ℕ)
        → (IsOneOf (values_defined s.body) k × (k ≡ value.0 → ⊥)) ⊎ (IsOneOf (values_defined s.body) value.0 × IsOneOf (flat_map target_numbers news) k) → k < after
    low s value news after placed shaped less k (inl old) =
        let below = member_has (λ v. v < s.next_value) (values_defined s.body) k shaped.below old.0 in let counted = placed.counted in omega (arith, below, counted)
    low s value news after placed shaped less k (inr new) =
        ⊎_elim (λ same. let counted = placed.counted in omega (arith, same, less, counted)) (λ within. within.1) (placed_within s.next_value after value news placed k new.1)

    reads_there : (defined old new : List ℕ) → ((k : ℕ) → IsOneOf old k → IsOneOf defined k) → ((k : ℕ) → IsOneOf new k → IsOneOf defined k)
        → (list : List ValueId) → AllByRecursion (λ id. IsOneOf old id.0 ⊎ IsOneOf new id.0) list → AllByRecursion (IsOneOf defined) (map (λ id. id.0) list)
    reads_there defined old new kept fresh [] all = tt
    reads_there defined old new kept fresh (id ∷ list) all = (⊎_elim (kept id.0) (fresh id.0) all.0, reads_there defined old new kept fresh list all.1)

    alone : (list : List Item) → flat_map (λ item. item ∷ []) list ≡ list
    alone [] = refl
    alone (item ∷ list) = ap (λ t. item ∷ t) (alone list)
