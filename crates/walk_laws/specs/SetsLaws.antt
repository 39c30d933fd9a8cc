-- What is kept by meets and by blocks holds of each set along the walk; and so sets along the walk are closed.
use Rattle.std.specs.Prelude.{◌≡◌, refl, ℕ, suc, Bool, true, false, ◌||◌, nat_eq, List, [], ◌∷◌, Option, Some, None, slice_get}
use Rattle.std.specs.List.{AllByRecursion}
use Rattle.std.proofs.Common.{sym, ◌∙◌, ap, subst, ⊎_elim}
use Rattle.std.proofs.lemmas.Bool.{and_from, and_parts, eqb-true, or_cases}
use Rattle.nir_ir.specs.declared.ids.ValueId.{ValueId}
use Rattle.nir_ir.specs.declared.instr.Instr.{Instr}
use Rattle.nir_ir.specs.declared.node.Block.{Block}
use Rattle.nir_ir.specs.declared.node.Phi.{Phi}
use Rattle.nir_ir.specs.Items.{reads, target}
use Rattle.nir_ir.specs.Nodes.{Nodes}
use Rattle.nir_validate.specs.Edges.{Edge, Set, meet, set_after, set_after_instrs, set_after_phis, with_member}
use Rattle.list_laws.specs.AllLaws.{all_each}
use Rattle.nir_validate.specs.Each.{InstrsWalked, IsReached}
use Rattle.walk_laws.specs.AlongLaws.{BlocksKeep, ConditionWith, With, each_with}
use Rattle.nir_validate.specs.Each.{BlockDefines, Each}
use Rattle.walk_laws.specs.EachLaws.{each_map}

abbrev pub SetHas : (Set → Type 0) → Edge → Type 0
SetHas C edge = C edge.set

abbrev pub MeetKeeps : (Set → Type 0) → Type 0
MeetKeeps C = (edges : List Edge) → IsReached edges → AllByRecursion (SetHas C) edges → C (meet edges)

abbrev pub BlocksKeepSets : (Set → Type 0) → (Block → List Edge → List Edge → Type 0) → Type 0
BlocksKeepSets C G = (b : Block) (edges all : List Edge) → G b edges all → IsReached edges → C (meet edges) → C (set_after_instrs b.instrs (set_after_phis b.phis (meet edges)))

abbrev pub BlockHas : (Set → Type 0) → (Block → List Edge → List Edge → Type 0) → Block → List Edge → List Edge → Type 0
BlockHas C G b edges all = G b edges all × (IsReached edges → C (meet edges))

abbrev pub ConditionHas : (Set → Type 0) → (ValueId → List Edge → Type 0) → ValueId → List Edge → Type 0
ConditionHas C H condition edges = H condition edges × (IsReached edges → C (meet edges))

out_has : (C : Set → Type 0) (G : Block → List Edge → List Edge → Type 0) → MeetKeeps C → BlocksKeepSets C G → BlocksKeep (SetHas C) G
out_has C G meets blocks b [] all here own = tt
out_has C G meets blocks b (edge ∷ edges) all here own = (blocks b (edge ∷ edges) all here refl (meets (edge ∷ edges) refl own), tt)

pub sets_each : (C : Set → Type 0) (G : Block → List Edge → List Edge → Type 0) (H : ValueId → List Edge → Type 0) → MeetKeeps C → BlocksKeepSets C G
    → (nodes : Nodes) (edges : List Edge) → Each G H nodes edges [] → AllByRecursion (SetHas C) edges → Each (BlockHas C G) (ConditionHas C H) nodes edges []
sets_each C G H meets blocks nodes edges each all =
    each_map (With (SetHas C) G) (BlockHas C G) (ConditionWith (SetHas C) H) (ConditionHas C H)
    (λ b p q here. (here.0, λ reached. meets p reached here.1)) (λ c p here. (here.0, λ reached. meets p reached here.1))
    nodes edges [] (each_with (SetHas C) G H (out_has C G meets blocks) nodes edges [] each all tt)

-- of what each value is made, and sets that hold that of each of their values
abbrev pub Made : Type 0
Made = ValueId → List ValueId

abbrev pub IsIn : Set → ValueId → Type 0
IsIn set id = set id.0 ≡ true

abbrev pub Closed : Made → Set → Type 0
Closed made set = (id : ValueId) → set id.0 ≡ true → AllByRecursion (IsIn set) (made id)

abbrev pub InstrMakes : Made → Instr → Type 0
InstrMakes made instr = (id : ValueId) → target instr ≡ Some id → made id ≡ reads instr

-- the values of a block are made of what its instructions read, and phis of nothing
pub record BlockMakes (made : Made) (b : Block) : Type 0 where
  pub phis : AllByRecursion (λ phi. made phi.value ≡ []) b.phis
  pub instrs : AllByRecursion (InstrMakes made) b.instrs

abbrev pub BlockClosed : Made → Block → List Edge → List Edge → Type 0
BlockClosed made b edges all = BlockDefines b edges all × BlockMakes made b

both_in : (edge : Edge) (edges : List Edge) (list : List ValueId) → AllByRecursion (IsIn edge.set) list → AllByRecursion (IsIn (meet edges)) list → AllByRecursion (IsIn (meet (edge ∷ edges))) list
both_in edge edges [] one two = tt
both_in edge edges (id ∷ list) one two = (and_from (edge.set id.0) (meet edges id.0) one.0 two.0, both_in edge edges list one.1 two.1)

all_in : (list : List ValueId) → AllByRecursion (IsIn (meet [])) list
all_in [] = tt
all_in (id ∷ list) = (refl, all_in list)

pub meet_closed : (made : Made) (edges : List Edge) → AllByRecursion (SetHas (Closed made)) edges → Closed made (meet edges)
meet_closed made [] all id is = all_in (made id)
meet_closed made (edge ∷ edges) all id is =
    let both = and_parts (edge.set id.0) (meet edges id.0) is in
    both_in edge edges (made id) (all.0 id both.0) (meet_closed made edges all.1 id both.1)

or_right : (same x : Bool) → x ≡ true → (same || x) ≡ true
or_right true x h = refl
or_right false x h = h

member_grows : (found : Option ValueId) (set : Set) (id : ValueId) → IsIn set id → IsIn (with_member found set) id
member_grows None set id is = is
member_grows (Some new) set id is = or_right (nat_eq id.0 new.0) (set id.0) is

member_closed : (made : Made) (found : Option ValueId) (set : Set) → Closed made set → ((id : ValueId) → found ≡ Some id → AllByRecursion (IsIn set) (made id)) → Closed made (with_member found set)
member_closed made None set closed own = closed
member_closed made (Some new) set closed own = λ id is.
    all_each (IsIn set) (IsIn (with_member (Some new) set)) (λ r in_set. member_grows (Some new) set r in_set) (made id)
    (⊎_elim
    (λ same. let equal : new ≡ id = λ i. record { 0 = sym (eqb-true id.0 new.0 same) i } in own id (ap {B = Option ValueId} Some equal))
    (λ old. closed id old)
    (or_cases (nat_eq id.0 new.0) (set id.0) is))

pub phis_closed : (made : Made) (phis : List Phi) (set : Set) → AllByRecursion (λ phi. made phi.value ≡ []) phis → Closed made set → Closed made (set_after_phis phis set)
phis_closed made [] set makes closed = closed
phis_closed made (phi ∷ phis) set makes closed =
    phis_closed made phis (with_member (Some phi.value) set) makes.1
    (member_closed made (Some phi.value) set closed (λ id is. subst (AllByRecursion (IsIn set)) (sym (ap made (sym (some_same phi.value id is)) ∙ makes.0)) tt))
  where
    some_same : (a b : ValueId) → Some a ≡ Some b → a ≡ b
    some_same a b h = cc

pub listed : (set : Set) (list : List ValueId) → ((id : ValueId) (at : ℕ) → slice_get list at ≡ Some id → set id.0 ≡ true) → AllByRecursion (IsIn set) list
listed set [] h = tt
listed set (id ∷ list) h = (h id 0 refl, listed set list (λ other at is. h other (suc at) is))

pub instrs_closed : (made : Made) (instrs : List Instr) (set : Set) → AllByRecursion (InstrMakes made) instrs → InstrsWalked set instrs → Closed made set → Closed made (set_after_instrs instrs set)
instrs_closed made [] set makes walked closed = closed
instrs_closed made (instr ∷ instrs) set makes walked closed =
    instrs_closed made instrs (set_after instr set) makes.1 walked.1
    (member_closed made (target instr) set closed
    (λ id is. subst (AllByRecursion (IsIn set)) (sym (makes.0 id is)) (listed set (reads instr) (λ r at found. walked.0 r (at, found)))))

pub closed_each : (made : Made) (H : ValueId → List Edge → Type 0) (nodes : Nodes) (edges : List Edge) → Each (BlockClosed made) H nodes edges [] → AllByRecursion (SetHas (Closed made)) edges
    → Each (BlockHas (Closed made) (BlockClosed made)) (ConditionHas (Closed made) H) nodes edges []
closed_each made H nodes edges each all =
    sets_each (Closed made) (BlockClosed made) H (λ p reached own. meet_closed made p own)
    (λ b p q here reached closed. instrs_closed made b.instrs (set_after_phis b.phis (meet p)) here.1.instrs (here.0 reached).1 (phis_closed made b.phis (meet p) here.1.phis closed))
    nodes edges each all
