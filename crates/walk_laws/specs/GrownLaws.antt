-- Instructions that are replaced in place by others which read what is defined there and define what those did: the shader stays valid where its items fit.
use Rattle.std.specs.Prelude.{◌≡◌, refl, ℕ, Bool, true, false, ◌||◌, nat_eq, List, [], ◌∷◌, ◌++◌, map, Option, Some}
use Rattle.std.specs.List.{flat_map, list_any}
use Rattle.std.specs.Option.{option_to_list}
use Rattle.std.proofs.Common.{sym, ◌∙◌, ap, ap₂, subst}
use Rattle.std.proofs.lemmas.Bool.{and_from, and_parts}
use Rattle.nir_ir.specs.declared.ids.BlockId.{BlockId}
use Rattle.nir_ir.specs.declared.ids.ValueId.{ValueId}
use Rattle.nir_ir.specs.declared.instr.Instr.{Instr}
use Rattle.nir_ir.specs.declared.node.Block.{Block}
use Rattle.nir_ir.specs.declared.node.Phi.{Phi}
use Rattle.nir_ir.specs.declared.node.PhiSource.{PhiSource}
use Rattle.nir_ir.specs.Shader.{Shader}
use Rattle.nir_validate.specs.Edges.{Edge, Set, meet, set_after, set_after_instrs, set_after_phis, with_member}
use Rattle.nir_validate.specs.Rules.{named, names_each_once, predecessors}
use Rattle.nir_validate.specs.Typed.{NodesFit}
use Rattle.list_laws.specs.AllLaws.{all_each}
use Rattle.nir_validate.specs.Valid.{Valid}
use Rattle.nir_validate.specs.Walk.{entry, out_edges}
use Rattle.nir_validate.specs.Each.{InstrsWalked, IsDefinedAlong, IsReached, PhiWalked}
use Rattle.walk_laws.specs.PartsLaws.{parts-from_valid, valid-from_parts}
use Rattle.nir_validate.specs.Each.{BlockDefines, ConditionDefined, Each, Lives}
use Rattle.walk_laws.specs.EachLaws.{NoFact, each_both}
use Rattle.nir_validate.specs.Alternates.{JumpsIn, Turns}
use Rattle.walk_laws.specs.PairsLaws.{AllPairs, Change, changed, changed_block, each_changed, jumps_changed, lives_changed, turns_changed}

-- the one set is in the other
abbrev pub IsBelow : Set → Set → Type 0
IsBelow a b = (n : ℕ) → a n ≡ true → b n ≡ true

-- from the same block, with no smaller set
pub record IsGrown (a b : Edge) : Type 0 where
  pub from : a.from ≡ b.from
  pub set : IsBelow a.set b.set

-- what takes an instruction's place, where the values of the set are defined
pub record TakesPlace (set : Set) (instr : Instr) (news : List Instr) : Type 0 where
  pub reads : (more : Set) → IsBelow set more → InstrsWalked more news
  pub grows : (more : Set) → IsBelow set more → IsBelow (set_after instr set) (set_after_instrs news more)

abbrev pub InstrsTake : (Instr → List Instr) → Set → List Instr → Type 0
InstrsTake f set [] = Unit {0}
InstrsTake f set (instr ∷ instrs) = TakesPlace set instr (f instr) × InstrsTake f (set_after instr set) instrs

-- along the walk, of what is reached
abbrev pub BlockTakes : (Instr → List Instr) → Block → List Edge → List Edge → Type 0
BlockTakes f b edges all = IsReached edges → InstrsTake f (set_after_phis b.phis (meet edges)) b.instrs

abbrev pub BlockBoth : (Instr → List Instr) → Block → List Edge → List Edge → Type 0
BlockBoth f b edges all = BlockDefines b edges all × BlockTakes f b edges all

abbrev pub in_places : (Instr → List Instr) → Change
in_places f = record { phis = λ list. list; instr = f; condition = λ id value. value }

abbrev pub ValidInPlaces : Type 0
ValidInPlaces = (s t : Shader) (f : Instr → List Instr) → Each (BlockTakes f) NoFact s.body (entry ∷ []) [] → t.body ≡ changed (in_places f) s.body → NodesFit t t.body → Valid s → Valid t

pub meet_grown : (p q : List Edge) → AllPairs IsGrown p q → IsBelow (meet p) (meet q)
meet_grown [] [] all n is = refl
meet_grown [] (b ∷ q) all n is = absurd all
meet_grown (a ∷ p) [] all n is = absurd all
meet_grown (a ∷ p) (b ∷ q) all n is =
    let both = and_parts (a.set n) (meet p n) is in and_from (b.set n) (meet q n) (all.0.set n both.0) (meet_grown p q all.1 n both.1)

pub more_below : (id : ValueId) (a b : Set) → IsBelow a b → IsBelow (with_member (Some id) a) (with_member (Some id) b)
more_below id a b below n is = more (nat_eq n id.0) (a n) (b n) (below n) is
  where
    more : (same x y : Bool) → (x ≡ true → y ≡ true) → (same || x) ≡ true → (same || y) ≡ true
    more true x y h is = refl
    more false x y h is = h is

phis_below : (phis : List Phi) (a b : Set) → IsBelow a b → IsBelow (set_after_phis phis a) (set_after_phis phis b)
phis_below [] a b below = below
phis_below (phi ∷ phis) a b below = phis_below phis (with_member (Some phi.value) a) (with_member (Some phi.value) b) (more_below phi.value a b below)

-- one list of instructions after another
walked_append : (set : Set) (xs ys : List Instr) → InstrsWalked set xs → InstrsWalked (set_after_instrs xs set) ys → InstrsWalked set (xs ++ ys)
walked_append set [] ys one two = two
walked_append set (x ∷ xs) ys one two = (one.0, walked_append (set_after x set) xs ys one.1 two)

after_append : (set : Set) (xs ys : List Instr) → set_after_instrs (xs ++ ys) set ≡ set_after_instrs ys (set_after_instrs xs set)
after_append set [] ys = refl
after_append set (x ∷ xs) ys = after_append (set_after x set) xs ys

instrs_below : (f : Instr → List Instr) (instrs : List Instr) (a b : Set) → InstrsTake f a instrs → IsBelow a b → IsBelow (set_after_instrs instrs a) (set_after_instrs (flat_map f instrs) b)
instrs_below f [] a b takes below = below
instrs_below f (instr ∷ instrs) a b takes below =
    subst (IsBelow (set_after_instrs instrs (set_after instr a))) (sym (after_append b (f instr) (flat_map f instrs)))
    (instrs_below f instrs (set_after instr a) (set_after_instrs (f instr) b) takes.1 (takes.0.grows b below))

instrs_in_places : (f : Instr → List Instr) (instrs : List Instr) (a b : Set) → InstrsTake f a instrs → IsBelow a b → InstrsWalked b (flat_map f instrs)
instrs_in_places f [] a b takes below = tt
instrs_in_places f (instr ∷ instrs) a b takes below =
    walked_append b (f instr) (flat_map f instrs) (takes.0.reads b below)
    (instrs_in_places f instrs (set_after instr a) (set_after_instrs (f instr) b) takes.1 (takes.0.grows b below))

-- phis see edges from the same blocks
same_predecessors : (p q : List Edge) → AllPairs IsGrown p q → predecessors p ≡ predecessors q
same_predecessors [] [] all = refl
same_predecessors [] (b ∷ q) all = absurd all
same_predecessors (a ∷ p) [] all = absurd all
same_predecessors (a ∷ p) (b ∷ q) all =
    ap₂ (λ (from : Option BlockId) (rest : List ℕ). map (λ (id : BlockId). id.0) (option_to_list from) ++ rest) all.0.from (same_predecessors p q all.1)

source_grown : (source : PhiSource) (p q : List Edge) → AllPairs IsGrown p q → IsDefinedAlong p source → IsDefinedAlong q source
source_grown source [] [] all along = tt
source_grown source [] (b ∷ q) all along = absurd all
source_grown source (a ∷ p) [] all along = absurd all
source_grown source (a ∷ p) (b ∷ q) all along = (
  (λ comes. all.0.set source.value.0 (along.0 (ap (λ (from : Option BlockId). list_any (λ (id : BlockId). nat_eq id.0 source.from.0) (option_to_list from)) all.0.from ∙ comes))),
  source_grown source p q all.1 along.1,
)

phi_grown : (p q : List Edge) → AllPairs IsGrown p q → (phi : Phi) → PhiWalked p phi → PhiWalked q phi
phi_grown p q all phi walked = record {
  names = subst (λ blocks. names_each_once blocks (named phi) ≡ true) (same_predecessors p q all) walked.names;
  sources = all_each (IsDefinedAlong p) (IsDefinedAlong q) (λ source. source_grown source p q all) phi.sources walked.sources;
}

reached_before : (p q : List Edge) → AllPairs IsGrown p q → IsReached q → IsReached p
reached_before [] [] all reached = reached
reached_before [] (b ∷ q) all reached = absurd all
reached_before (a ∷ p) q all reached = refl

out_grown : (f : Instr → List Instr) (b : Block) (p q all : List Edge) → BlockBoth f b p all → AllPairs IsGrown p q → AllPairs IsGrown (out_edges b p) (out_edges (changed_block (in_places f) b) q)
out_grown f b [] [] all here pairs = tt
out_grown f b [] (y ∷ q) all here pairs = absurd pairs
out_grown f b (x ∷ p) [] all here pairs = absurd pairs
out_grown f b (x ∷ p) (y ∷ q) all here pairs = (
  record {
    from = refl;
    set = instrs_below f b.instrs (set_after_phis b.phis (meet (x ∷ p))) (set_after_phis b.phis (meet (y ∷ q))) (here.1 refl)
        (phis_below b.phis (meet (x ∷ p)) (meet (y ∷ q)) (meet_grown (x ∷ p) (y ∷ q) pairs));
  },
  tt,
)

block_grown : (f : Instr → List Instr) (b : Block) (p q all all' : List Edge) → BlockBoth f b p all → AllPairs IsGrown p q → AllPairs IsGrown all all' → BlockDefines (changed_block (in_places f) b) q all'
block_grown f b p q all all' here pairs every reached =
    let first = reached_before p q pairs reached in (
      all_each (PhiWalked all) (PhiWalked all') (phi_grown all all' every) b.phis (here.0 first).0,
      instrs_in_places f b.instrs (set_after_phis b.phis (meet p)) (set_after_phis b.phis (meet q)) (here.1 first) (phis_below b.phis (meet p) (meet q) (meet_grown p q pairs)),
    )

pub valid_in_places : ValidInPlaces
valid_in_places s t f takes is fits valid =
    let c = in_places f in
    let parts = parts-from_valid s valid in
    let whole = parts.whole in
    let start : AllPairs IsGrown (entry ∷ []) (entry ∷ []) = (record { from = refl; set = λ n h. h }, tt) in
    let both : Each (BlockBoth f) ConditionDefined s.body (entry ∷ []) [] =
    each_both BlockDefines (BlockTakes f) (BlockBoth f) ConditionDefined NoFact ConditionDefined (λ b p all one two. (one, two)) (λ condition p one two. one) s.body (entry ∷ []) [] whole.defines takes in
    valid-from_parts t (record {
      order = subst (λ body. Turns true body) (sym is) (turns_changed c true s.body parts.order);
      whole = record {
        jumps = subst (JumpsIn false) (sym is) (jumps_changed c false s.body whole.jumps);
        fits = fits;
        lives = subst (λ body. Lives body (entry ∷ [])) (sym is)
            (lives_changed c IsGrown (BlockBoth f) ConditionDefined (out_grown f) refl s.body (entry ∷ []) (entry ∷ []) [] both start whole.lives);
        defines = subst (λ body. Each BlockDefines ConditionDefined body (entry ∷ []) []) (sym is)
            (each_changed c IsGrown (BlockBoth f) BlockDefines ConditionDefined ConditionDefined (out_grown f) (block_grown f)
            (λ id condition p q here pairs reached. meet_grown p q pairs condition.0 (here (reached_before p q pairs reached)))
            s.body (entry ∷ []) (entry ∷ []) [] [] both start tt);
      };
    })
