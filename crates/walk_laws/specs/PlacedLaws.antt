-- Instructions in the place of the one that defines a value keep a shader valid, where what they read is defined wherever what the old one reads is.
use Rattle.std.specs.Prelude.{◌≡◌, refl, ℕ, ◌<◌, Bool, true, false, ◌||◌, nat_eq, List, [], ◌∷◌, ◌++◌, Option, Some, None}
use Rattle.std.specs.List.{AllByRecursion, flat_map}
use Rattle.std.specs.Option.{option_map_or}
use Rattle.std.proofs.Common.{sym, ◌∙◌, ap, subst}
use Rattle.std.proofs.lemmas.Bool.{cond-false, cond-true, eq-eqb, eqb-true, or_left, true≢false}
use Rattle.std.proofs.lemmas.Option.{same_Some}
use Rattle.list_laws.specs.AllLaws.{all_each}
use Rattle.nir_ir.specs.declared.ids.ValueId.{ValueId}
use Rattle.nir_ir.specs.declared.instr.Instr.{Instr}
use Rattle.nir_ir.specs.declared.node.Block.{Block}
use Rattle.nir_ir.specs.Definitions.{instr_defining, is_target, kind_of_target}
use Rattle.nir_ir.specs.Edits.{ArePlaced, in_place_of, replaced, with_news}
use Rattle.nir_ir.specs.EditsShaped.{target_of}
use Rattle.nir_ir.specs.Items.{InstrItem, PhiItem, block_items, items, reads, target, values_defined}
use Rattle.nir_ir.specs.Nodes.{Nodes, Nil, BlockThen, IfThen, LoopThen}
use Rattle.nir_ir.specs.Shaped.{IsShaped}
use Rattle.nir_ir.specs.Shader.{Shader}
use Rattle.nir_validate.specs.Each.{BlockDefines, ConditionDefined, Each, InstrsWalked, IsReached}
use Rattle.nir_validate.specs.Edges.{Edge, Set, backs, either, meet, out_of_loop, set_after, set_after_instrs, set_after_phis, with_member}
use Rattle.nir_validate.specs.Kept.{ReadsIn}
use Rattle.nir_validate.specs.Typed.{InstrFits}
use Rattle.nir_validate.specs.Valid.{Valid}
use Rattle.nir_validate.specs.Walk.{block_flow, entry, walk}
use Rattle.edit_laws.specs.DefiningLaws.{EachBlock, IsFound, blocks_have, instrs_have, items_found, phis_have}
use Rattle.edit_laws.specs.ItemsLaws.{value_defined}
use Rattle.edit_laws.specs.NumbersLaws.{member_has}
use Rattle.edit_laws.specs.PlacedLaws.{AreShaped}
use Rattle.walk_laws.specs.EachLaws.{NoFact, each_both, each_map}
use Rattle.walk_laws.specs.FitsLaws.{placed_fit, uses_kept}
use Rattle.walk_laws.specs.GrownLaws.{BlockTakes, InstrsTake, IsBelow, TakesPlace, in_places, valid_in_places}
use Rattle.walk_laws.specs.PairsLaws.{changed}
use Rattle.walk_laws.specs.PartsLaws.{parts-from_valid}
use Rattle.walk_laws.specs.SetsLaws.{BlockClosed, BlockHas, BlockMakes, Closed, ConditionHas, InstrMakes, Made, closed_each, instrs_closed, phis_closed}

-- ---- of what each value is made: what the instruction that defines it reads; a phi is made of nothing

abbrev pub made_by : Nodes → Made
made_by body id = option_map_or reads (instr_defining id body) []

-- each instruction of a block is the one that defines its value, and no instruction defines a phi's
abbrev pub InstrDefines : Nodes → Instr → Type 0
InstrDefines body instr = (id : ValueId) → target instr ≡ Some id → instr_defining id body ≡ Some instr

pub record BlockDefining (body : Nodes) (b : Block) : Type 0 where
  pub phis : AllByRecursion (λ phi. instr_defining phi.value body ≡ None) b.phis
  pub instrs : AllByRecursion (InstrDefines body) b.instrs

pub each_block : (P Q : Block → Type 0) (G : Block → List Edge → List Edge → Type 0) (H : ValueId → List Edge → Type 0) → ((b : Block) → P b → Q b)
    → (nodes : Nodes) (edges back : List Edge) → EachBlock P nodes → Each G H nodes edges back → Each (λ b p q. G b p q × Q b) H nodes edges back
each_block P Q G H follows Nil edges back all each = each
each_block P Q G H follows (BlockThen b rest) edges back all each = ((each.0, follows b all.0), each_block P Q G H follows rest (block_flow b edges).falls [] all.1 each.1)
each_block P Q G H follows (IfThen id condition first second rest) edges back all each = (
  each.0,
  each.1,
  each_block P Q G H follows first edges [] all.0 each.2,
  each_block P Q G H follows second edges [] all.1 each.3,
  each_block P Q G H follows rest (either (walk first edges) (walk second edges)).falls [] all.2 each.4,
)
each_block P Q G H follows (LoopThen id body rest) edges back all each = (
  each.0,
  each_block P Q G H follows body edges (backs (walk body edges)) all.0 each.1,
  each_block P Q G H follows rest (out_of_loop (walk body edges)).falls [] all.1 each.2,
)

block_defining : (s : Shader) (b : Block) → AllByRecursion (IsFound (items s.body)) (block_items b) → BlockDefining s.body b
block_defining s b all = record {
  phis = all_each (λ phi. IsFound (items s.body) (PhiItem phi)) (λ phi. instr_defining phi.value s.body ≡ None) (λ phi is. is.none) b.phis (phis_have (IsFound (items s.body)) b all);
  instrs = all_each (λ instr. IsFound (items s.body) (InstrItem instr)) (InstrDefines s.body) (λ instr is id aims. (is id aims).found) b.instrs (instrs_have (IsFound (items s.body)) b all);
}

-- along the walk of a shaped shader
pub each_defining : (s : Shader) (G : Block → List Edge → List Edge → Type 0) (H : ValueId → List Edge → Type 0) → IsShaped s → Each G H s.body (entry ∷ []) []
    → Each (λ b p q. G b p q × BlockDefining s.body b) H s.body (entry ∷ []) []
each_defining s G H shaped each =
    each_block (λ b. AllByRecursion (IsFound (items s.body)) (block_items b)) (BlockDefining s.body) G H (block_defining s) s.body (entry ∷ []) []
    (blocks_have (IsFound (items s.body)) s.body (items_found s shaped)) each

pub block_makes : (body : Nodes) (b : Block) → BlockDefining body b → BlockMakes (made_by body) b
block_makes body b defining = record {
  phis = all_each (λ phi. instr_defining phi.value body ≡ None) (λ phi. made_by body phi.value ≡ []) (λ phi none. ap (λ found. option_map_or reads found []) none) b.phis defining.phis;
  instrs = all_each (InstrDefines body) (InstrMakes (made_by body)) (λ instr is id aims. ap (λ found. option_map_or reads found []) (is id aims)) b.instrs defining.instrs;
}

-- each set along the walk of a valid shader holds, with each of its values, those of which it is made
abbrev pub BlockKnown : Nodes → Block → List Edge → List Edge → Type 0
BlockKnown body b edges all = (BlockDefines b edges all × BlockDefining body b) × (IsReached edges → Closed (made_by body) (meet edges))

abbrev pub ConditionKnown : Nodes → ValueId → List Edge → Type 0
ConditionKnown body condition edges = ConditionDefined condition edges × (IsReached edges → Closed (made_by body) (meet edges))

pub known_each : (s : Shader) → IsShaped s → Valid s → Each (BlockKnown s.body) (ConditionKnown s.body) s.body (entry ∷ []) []
known_each s shaped valid =
    let made = made_by s.body in
    let defines = (parts-from_valid s valid).whole.defines in
    let both = each_defining s BlockDefines ConditionDefined shaped defines in
    let makes = each_map (λ b p q. BlockDefines b p q × BlockDefining s.body b) (BlockClosed made) ConditionDefined ConditionDefined (λ b p q here. (here.0, block_makes s.body b here.1)) (λ c p here. here) s.body (entry ∷ []) [] both in
    let closed = closed_each made ConditionDefined s.body (entry ∷ []) makes ((λ id is. absurd (true≢false (sym is))), tt) in
    each_both (λ b p q. BlockDefines b p q × BlockDefining s.body b) (BlockHas (Closed made) (BlockClosed made)) (BlockKnown s.body) ConditionDefined (ConditionHas (Closed made) ConditionDefined) (ConditionKnown s.body)
    (λ b p q one two. (one, two.1)) (λ c p one two. (one, two.1)) s.body (entry ∷ []) [] both closed

-- ---- in place of one instruction

pub record IsInPlace (s : Shader) (value : ValueId) (old : Instr) (news : List Instr) (after : ℕ) : Type 0 where
  pub defined : instr_defining value s.body ≡ Some old
  pub placed : ArePlaced s.next_value after value news
  pub shaped : AreShaped s news
  pub kind : kind_of_target placed.last ≡ kind_of_target old
  pub fits : AllByRecursion (InstrFits (with_news s value news after)) news
  -- wherever what the old one reads is defined, with all of which that is made
  pub reads : (set more : Set) → Closed (made_by s.body) set → ReadsIn set old → IsBelow set more → InstrsWalked more news

abbrev pub ValidPlaced : Type 0
ValidPlaced = (s : Shader) (value : ValueId) (old : Instr) (news : List Instr) (after : ℕ) → IsShaped s → Valid s → IsInPlace s value old news after → Valid (with_news s value news after)

-- what is in a set stays in it
member_stays : (found : Option ValueId) (set : Set) (n : ℕ) → set n ≡ true → with_member found set n ≡ true
member_stays None set n is = is
member_stays (Some id) set n is = first (nat_eq n id.0) (set n) is where
  first : (a b : Bool) → b ≡ true → (a || b) ≡ true
  first true b is = refl
  first false b is = is

after_below : (found : Option ValueId) (a b : Set) → IsBelow a b → IsBelow (with_member found a) (with_member found b)
after_below None a b below n is = below n is
after_below (Some id) a b below n is = more (nat_eq n id.0) (a n) (b n) (below n) is where
  more : (same x y : Bool) → (x ≡ true → y ≡ true) → (same || x) ≡ true → (same || y) ≡ true
  more true x y h is = refl
  more false x y h is = h is

instrs_stay : (instrs : List Instr) (set : Set) (n : ℕ) → set n ≡ true → set_after_instrs instrs set n ≡ true
instrs_stay [] set n is = is
instrs_stay (instr ∷ instrs) set n is = instrs_stay instrs (set_after instr set) n (member_stays (target instr) set n is)

last_defines : (front : List Instr) (last : Instr) (value : ValueId) (set : Set) → target last ≡ Some value → set_after_instrs (front ++ last ∷ []) set value.0 ≡ true
last_defines [] last value set root = ap (λ found. with_member found set value.0) root ∙ or_left (nat_eq value.0 value.0) (set value.0) (eq-eqb value.0 value.0 refl)
last_defines (instr ∷ front) last value set root = last_defines front last value (set_after instr set) root

takes_place : (s : Shader) (value : ValueId) (old : Instr) (news : List Instr) (after : ℕ) → IsInPlace s value old news after → (set : Set) (instr : Instr)
    → Closed (made_by s.body) set → InstrDefines s.body instr → ReadsIn set instr → TakesPlace set instr (in_place_of value news instr)
takes_place s value old news after h set instr closed defines reads_in = by_test (is_target value instr) refl where
  new_takes : instr ≡ old → target instr ≡ Some value → TakesPlace set instr news
  new_takes same aims = record {
    reads = λ more below. h.reads set more closed (subst (ReadsIn set) same reads_in) below;
    grows = λ more below n is. grown more below n (is_value n is);
  } where
    is_value : (n : ℕ) → set_after instr set n ≡ true → (nat_eq n value.0 || set n) ≡ true
    is_value n is = sym (ap (λ found. with_member found set n) aims) ∙ is

    grown : (more : Set) → IsBelow set more → (n : ℕ) → (nat_eq n value.0 || set n) ≡ true → set_after_instrs news more n ≡ true
    grown more below n is = first (nat_eq n value.0) refl is where
      first : (test : Bool) → nat_eq n value.0 ≡ test → (test || set n) ≡ true → set_after_instrs news more n ≡ true
      first true same is = subst (λ m. set_after_instrs news more m ≡ true) (sym (eqb-true n value.0 same)) (subst (λ list. set_after_instrs list more value.0 ≡ true) (sym h.placed.are) (last_defines h.placed.front h.placed.last value more h.placed.root))
      first false same is = instrs_stay news more n (below n is)

  by_test : (test : Bool) → is_target value instr ≡ test → TakesPlace set instr (in_place_of value news instr)
  by_test true is =
      let aims : target instr ≡ Some value = target_of value instr is in
      subst (TakesPlace set instr) (sym (cond-true (is_target value instr) news (instr ∷ []) is)) (new_takes (same_Some instr old (sym (defines value aims) ∙ h.defined)) aims)
  by_test false is =
      subst (TakesPlace set instr) (sym (cond-false (is_target value instr) news (instr ∷ []) is))
      (record { reads = λ more below. ((λ id at. below id.0 (reads_in id at)), tt); grows = λ more below. after_below (target instr) set more below })

instrs_take : (s : Shader) (value : ValueId) (old : Instr) (news : List Instr) (after : ℕ) → IsInPlace s value old news after → (instrs : List Instr) (set : Set)
    → Closed (made_by s.body) set → AllByRecursion (InstrDefines s.body) instrs → AllByRecursion (InstrMakes (made_by s.body)) instrs → InstrsWalked set instrs → InstrsTake (in_place_of value news) set instrs
instrs_take s value old news after h [] set closed defines makes walked = tt
instrs_take s value old news after h (instr ∷ instrs) set closed defines makes walked = (
  takes_place s value old news after h set instr closed defines.0 walked.0,
  instrs_take s value old news after h instrs (set_after instr set) (instrs_closed (made_by s.body) (instr ∷ []) set (makes.0, tt) (walked.0, tt) closed) defines.1 makes.1 walked.1,
)

block_takes : (s : Shader) (value : ValueId) (old : Instr) (news : List Instr) (after : ℕ) → IsInPlace s value old news after → (b : Block) (p q : List Edge) → BlockKnown s.body b p q → BlockTakes (in_place_of value news) b p q
block_takes s value old news after h b p q here reached =
    let makes = block_makes s.body b here.0.1 in
    instrs_take s value old news after h b.instrs (set_after_phis b.phis (meet p)) (phis_closed (made_by s.body) b.phis (meet p) makes.phis (here.1 reached)) here.0.1.instrs makes.instrs (here.0.0 reached).1

pub replaced-changed : (value : ValueId) (news : List Instr) (nodes : Nodes) → replaced value news nodes ≡ changed (in_places (in_place_of value news)) nodes
replaced-changed value news Nil = refl
replaced-changed value news (BlockThen b rest) = ap (BlockThen (record { id = b.id; phis = b.phis; instrs = flat_map (in_place_of value news) b.instrs; jump = b.jump })) (replaced-changed value news rest)
replaced-changed value news (IfThen id condition first second rest) =
    ap (λ x. IfThen id condition x (replaced value news second) (replaced value news rest)) (replaced-changed value news first)
    ∙ ap (λ x. IfThen id condition (changed (in_places (in_place_of value news)) first) x (replaced value news rest)) (replaced-changed value news second)
    ∙ ap (IfThen id condition (changed (in_places (in_place_of value news)) first) (changed (in_places (in_place_of value news)) second)) (replaced-changed value news rest)
replaced-changed value news (LoopThen id body rest) =
    ap (λ x. LoopThen id x (replaced value news rest)) (replaced-changed value news body) ∙ ap (LoopThen id (changed (in_places (in_place_of value news)) body)) (replaced-changed value news rest)

pub valid_placed : ValidPlaced
valid_placed s value old news after shaped valid h =
    let t = with_news s value news after in
    let low : value.0 < s.next_value = member_has (λ v. v < s.next_value) (values_defined s.body) value.0 shaped.below (value_defined value old s.body h.defined) in
    valid_in_places s t (in_place_of value news)
    (each_map (BlockKnown s.body) (BlockTakes (in_place_of value news)) (ConditionKnown s.body) NoFact (block_takes s value old news after h) (λ c p here. tt) s.body (entry ∷ []) [] (known_each s shaped valid))
    (replaced-changed value news s.body)
    (placed_fit s t value news refl refl refl h.fits s.body (uses_kept s value old news after shaped h.defined h.placed low h.kind) (parts-from_valid s valid).whole.fits)
    valid
