-- What is known stays known: where the set shrinks, after an instruction, after phis that are read together, after a block.
use Rattle.std.specs.Prelude.{◌≡◌, refl, ℕ, suc, Bool, true, false, ◌||◌, nat_eq, List, [], ◌∷◌, Option, Some, None, is_some, cond, slice_get}
use Rattle.std.specs.List.{AllByRecursion, find}
use Rattle.std.specs.Option.{option_map_or}
use Rattle.std.proofs.Common.{sym, ◌∙◌, ap, subst, inl, inr}
use Rattle.std.proofs.lemmas.Bool.{and_from, and_parts, eqb-true, eq-eqb, ne_eqb, true≢false}
use Rattle.std.proofs.lemmas.Option.{same_Some}
use Rattle.list_laws.specs.AllLaws.{all_both, all_each}
use Rattle.list_laws.specs.OptionLaws.{found_passes}
use Rattle.nir_ir.specs.declared.ids.BlockId.{BlockId}
use Rattle.nir_ir.specs.declared.ids.ValueId.{ValueId}
use Rattle.nir_ir.specs.declared.instr.Instr.{Instr}
use Rattle.nir_ir.specs.declared.instr.Instr.TheVariants.{Alu, Const, Undef, Input, Output, LoadBuf, StoreBuf}
use Rattle.nir_ir.specs.declared.kind.Kind.{Kind}
use Rattle.nir_ir.specs.declared.node.Block.{Block}
use Rattle.nir_ir.specs.declared.node.Phi.{Phi}
use Rattle.nir_ir.specs.declared.node.PhiSource.{PhiSource}
use Rattle.nir_ir.specs.Definitions.{Kinds, is_from, kind_of_target}
use Rattle.nir_ir.specs.Found.{found_all}
use Rattle.nir_ir.specs.Items.{reads, target}
use Rattle.nir_validate.specs.Each.{IsDefinedAlong}
use Rattle.nir_validate.specs.Edges.{Edge, Set, meet, set_after, set_after_instrs, set_after_phis, with_member}
use Rattle.nir_validate.specs.Kept.{ReadsIn}
use Rattle.nir_mean.specs.MadeKinds.{KindOf, made_kind, world_holds, zeros_kind}
use Rattle.nir_mean.specs.Bytes.{BuffersHold}
use Rattle.nir_mean.specs.Known.{HasKind}
use Rattle.nir_mean.specs.Points.{or_other, or_right, same_id}
use Rattle.nir_mean.specs.Reads.{with_value-here, with_value-other}
use Rattle.nir_mean.specs.Run.{phi_value, run_instr, run_instrs, run_phis, value_of, world_of}
use Rattle.nir_mean.specs.Same.{InputsFit}
use Rattle.nir_mean.specs.State.{State, World, with_target, with_value, zeros}
use Rattle.nir_mean.specs.Values.{Values}
use Rattle.walk_laws.specs.GrownLaws.{IsBelow}
use Rattle.run_laws.specs.Known.{Basis, Defines, Equations, InstrGood, InstrsGood, IsEdgeOf, IsUnder, Known, PartsGood, PhiGood, Ranges, ended, entered, under}
use Rattle.walk_laws.specs.SetsLaws.{IsIn}
use Rattle.run_laws.specs.Makings.{Closed, Making, Makings, making_of}

-- ---- sets

pub meet_under : (edges : List Edge) → IsUnder (meet edges) edges
meet_under [] = tt
meet_under (edge ∷ edges) = (
  (λ n is. (and_parts (edge.set n) (meet edges n) is).0),
  all_each (λ e. IsBelow (meet edges) e.set) (λ e. IsBelow (meet (edge ∷ edges)) e.set) (λ e below n is. below n (and_parts (edge.set n) (meet edges n) is).1) edges (meet_under edges),
)

pub edge_all : (P : Edge → Type 0) (edges : List Edge) → AllByRecursion P edges → (edge : Edge) → IsEdgeOf edge edges → P edge
edge_all P [] all edge is = absurd is
edge_all P (first ∷ edges) all edge (inl same) = subst P (sym same) all.0
edge_all P (first ∷ edges) all edge (inr is) = edge_all P edges all.1 edge is

pub member_below : (found : Option ValueId) (set : Set) → IsBelow set (with_member found set)
member_below None set n is = is
member_below (Some id) set n is = or_right (nat_eq n id.0) (set n) is

in_below : (a b : Set) → IsBelow a b → (list : List ValueId) → AllByRecursion (IsIn a) list → AllByRecursion (IsIn b) list
in_below a b below list all = all_each (IsIn a) (IsIn b) (λ id is. below id.0 is) list all

-- a value of the set is none that is not in it
pub elsewhere : (set : Set) (n : ℕ) (id : ValueId) → set n ≡ true → set id.0 ≡ false → nat_eq n id.0 ≡ false
elsewhere set n id inside out = ne_eqb n id.0 (λ e. true≢false (sym inside ∙ ap set e ∙ out))

-- ---- where the set shrinks

pub known-less : (kinds : Kinds) (makings : Makings) (a b : Set) (state : State) → IsBelow a b → Known kinds makings b state → Known kinds makings a state
known-less kinds makings a b state below known = record {
  equations = λ id making is of. known.equations id making (below id.0 is) of;
  ranges = λ id kind is of. known.ranges id kind (below id.0 is) of;
  bytes = known.bytes;
}

-- values that are the same on the set are made the same
local_in : (set : Set) (making : Making) (f g : Values) → ((n : ℕ) → set n ≡ true → f n ≡ g n) → AllByRecursion (IsIn set) making.reads → making.made f ≡ making.made g
local_in set making f g same inside = making.local f g (all_each (IsIn set) (λ id. f id.0 ≡ g id.0) (λ id is. same id.0 is) making.reads inside)

-- ---- closed sets

pub closed-member : (makings : Makings) (found : Option ValueId) (set : Set) → Closed makings set
    → ((id : ValueId) (making : Making) → found ≡ Some id → makings id ≡ Some making → AllByRecursion (IsIn set) making.reads) → Closed makings (with_member found set)
closed-member makings None set closed own id making is of = closed id making is of
closed-member makings (Some new) set closed own id making is of = in_below set (with_member (Some new) set) (member_below (Some new) set) making.reads (by_test (nat_eq id.0 new.0) refl) where
  by_test : (test : Bool) → nat_eq id.0 new.0 ≡ test → AllByRecursion (IsIn set) making.reads
  by_test true e = own id making (ap {B = Option ValueId} Some (sym (same_id id new e))) of
  by_test false e = closed id making (or_other (nat_eq id.0 new.0) (set id.0) e is) of

all_in_meet : (edge : Edge) (edges : List Edge) (list : List ValueId) → AllByRecursion (IsIn edge.set) list → AllByRecursion (IsIn (meet edges)) list → AllByRecursion (IsIn (meet (edge ∷ edges))) list
all_in_meet edge edges [] one two = tt
all_in_meet edge edges (id ∷ list) one two = (and_from (edge.set id.0) (meet edges id.0) one.0 two.0, all_in_meet edge edges list one.1 two.1)

all_in_none : (list : List ValueId) → AllByRecursion (IsIn (meet [])) list
all_in_none [] = tt
all_in_none (id ∷ list) = (refl, all_in_none list)

pub closed-meet : (makings : Makings) (edges : List Edge) → AllByRecursion (λ edge. Closed makings edge.set) edges → Closed makings (meet edges)
closed-meet makings [] all id making is of = all_in_none making.reads
closed-meet makings (edge ∷ edges) all id making is of =
    let both = and_parts (edge.set id.0) (meet edges id.0) is in
    all_in_meet edge edges making.reads (all.0 id making both.0 of) (closed-meet makings edges all.1 id making both.1 of)

-- ---- what an instruction makes

-- the equation of an instruction says what it makes
abbrev IsMadeSo : Basis → List (List ℕ) → ℕ → Instr → State → Option Making → Type 0
IsMadeSo basis inputs repeats instr state None = Unit {0}
IsMadeSo basis inputs repeats instr state (Some making) = (making.reads ≡ reads instr) × (value_of (under basis inputs repeats) instr state ≡ making.made state.values)

made_so : (basis : Basis) (inputs : List (List ℕ)) (repeats : ℕ) (instr : Instr) (state : State) → IsMadeSo basis inputs repeats instr state (making_of basis.kinds instr)
made_so basis inputs repeats (Alu id op kind srcs) state = (refl, refl)
made_so basis inputs repeats (Const id kind comps) state = (refl, refl)
made_so basis inputs repeats (Undef id kind) state = tt
made_so basis inputs repeats (Input id kind slot) state = tt
made_so basis inputs repeats (Output effect slot src) state = tt
made_so basis inputs repeats (LoadBuf id kind buffer offset) state = tt
made_so basis inputs repeats (StoreBuf effect buffer offset src) state = tt

listed : (set : Set) (list : List ValueId) → ((id : ValueId) (at : ℕ) → slice_get list at ≡ Some id → IsIn set id) → AllByRecursion (IsIn set) list
listed set [] h = tt
listed set (id ∷ list) h = (h id 0 refl, listed set list (λ other at is. h other (suc at) is))

making_reads : (kinds : Kinds) (set : Set) (instr : Instr) (making : Making) → ReadsIn set instr → making_of kinds instr ≡ Some making → AllByRecursion (IsIn set) making.reads
making_reads kinds set instr making inside is = subst (ReadsAre set) is (of_instr kinds set instr (listed set (reads instr) (λ id at found. inside id (at, found)))) where
  ReadsAre : Set → Option Making → Type 0
  ReadsAre set None = Unit {0}
  ReadsAre set (Some making) = AllByRecursion (IsIn set) making.reads

  of_instr : (kinds : Kinds) (set : Set) (instr : Instr) → AllByRecursion (IsIn set) (reads instr) → ReadsAre set (making_of kinds instr)
  of_instr kinds set (Alu id op kind srcs) all = all
  of_instr kinds set (Const id kind comps) all = tt
  of_instr kinds set (Undef id kind) all = tt
  of_instr kinds set (Input id kind slot) all = tt
  of_instr kinds set (Output effect slot src) all = tt
  of_instr kinds set (LoadBuf id kind buffer offset) all = tt
  of_instr kinds set (StoreBuf effect buffer offset src) all = tt

pub closed-instr : (basis : Basis) (set : Set) (instr : Instr) → InstrGood basis set instr → Closed basis.makings set → Closed basis.makings (set_after instr set)
closed-instr basis set instr good closed =
    closed-member basis.makings (target instr) set closed
    (λ id making is of. making_reads basis.kinds set instr making good.reads (sym (good.defines id is).making ∙ of))

pub closed-instrs : (basis : Basis) (set : Set) (instrs : List Instr) → InstrsGood basis set instrs → Closed basis.makings set → Closed basis.makings (set_after_instrs instrs set)
closed-instrs basis set [] good closed = closed
closed-instrs basis set (instr ∷ instrs) good closed = closed-instrs basis (set_after instr set) instrs good.1 (closed-instr basis set instr good.0 closed)

-- ---- a new value

-- what was known, and of the new value its equation and its kind
pub known-value : (kinds : Kinds) (makings : Makings) (set : Set) (id : ValueId) (comps : List ℕ) (values : Values) (world : World)
    → set id.0 ≡ false → Closed makings set
    → ((making : Making) → makings id ≡ Some making → AllByRecursion (IsIn set) making.reads × (comps ≡ making.made values))
    → ((kind : Kind) → kinds id ≡ Some kind → HasKind kind comps)
    → BuffersHold world.buffers → Equations makings set values → Ranges kinds set values
    → Known kinds makings (with_member (Some id) set) (record { values = with_value id comps values; world = world })
known-value kinds makings set id comps values world new closed made sized hold equations ranges = record { equations = equal; ranges = sizes; bytes = hold } where
  after : Values
  after = with_value id comps values

  same : (n : ℕ) → set n ≡ true → values n ≡ after n
  same n inside = sym (with_value-other id comps values n (elsewhere set n id inside new))

  here : (value : ValueId) → nat_eq value.0 id.0 ≡ true → after value.0 ≡ comps
  here value e = ap (λ (v : ValueId). after v.0) (same_id value id e) ∙ with_value-here id comps values

  equal : Equations makings (with_member (Some id) set) after
  equal value making inside of = by_test (nat_eq value.0 id.0) refl where
    by_test : (test : Bool) → nat_eq value.0 id.0 ≡ test → after value.0 ≡ making.made after
    by_test true e =
        let own = made making (ap makings (sym (same_id value id e)) ∙ of) in
        here value e ∙ own.1 ∙ local_in set making values after same own.0
    by_test false e =
        let old = or_other (nat_eq value.0 id.0) (set value.0) e inside in
        sym (same value.0 old) ∙ equations value making old of ∙ local_in set making values after same (closed value making old of)

  sizes : Ranges kinds (with_member (Some id) set) after
  sizes value kind inside of = by_test (nat_eq value.0 id.0) refl where
    by_test : (test : Bool) → nat_eq value.0 id.0 ≡ test → HasKind kind (after value.0)
    by_test true e = subst (HasKind kind) (sym (here value e)) (sized kind (ap kinds (sym (same_id value id e)) ∙ of))
    by_test false e = let old = or_other (nat_eq value.0 id.0) (set value.0) e inside in subst (HasKind kind) (same value.0 old) (ranges value kind old of)

-- ---- an instruction

module _ (basis : Basis) (inputs : List (List ℕ)) (repeats : ℕ) (given : InputsFit basis.inputs inputs) where
  pub known-instr : (instr : Instr) (set : Set) (state : State) → InstrGood basis set instr → Closed basis.makings set → Known basis.kinds basis.makings set state
      → Known basis.kinds basis.makings (set_after instr set) (run_instr (under basis inputs repeats) instr state)
  known-instr instr set state good closed known = by_target (target instr) refl where
    comps : List ℕ
    comps = value_of (under basis inputs repeats) instr state

    after : World
    after = world_of (under basis inputs repeats) instr state

    hold : BuffersHold after.buffers
    hold = world_holds (under basis inputs repeats) instr state known.bytes

    has : KindOf (kind_of_target instr) comps
    has = made_kind (under basis inputs repeats) basis.inputs basis.outputs basis.buffers instr state given good.shaped good.fits (λ id kind at is. known.ranges id kind (good.reads id at) is) known.bytes

    by_target : (found : Option ValueId) → target instr ≡ found → Known basis.kinds basis.makings (with_member found set) (record { values = with_target found comps state.values; world = after })
    by_target None is = record { equations = known.equations; ranges = known.ranges; bytes = hold }
    by_target (Some id) is =
        let own : Defines basis set instr id = good.defines id is in
        known-value basis.kinds basis.makings set id comps state.values after own.new closed
        (λ making of. (
          making_reads basis.kinds set instr making good.reads (sym own.making ∙ of),
          (subst (IsMadeSo basis inputs repeats instr state) (sym own.making ∙ of) (made_so basis inputs repeats instr state)).1,
        ))
        (λ kind of. subst (λ (found : Option Kind). KindOf found comps) (sym own.kind ∙ of) has)
        hold known.equations known.ranges

  pub known-instrs : (instrs : List Instr) (set : Set) (state : State) → InstrsGood basis set instrs → Closed basis.makings set → Known basis.kinds basis.makings set state
      → Known basis.kinds basis.makings (set_after_instrs instrs set) (run_instrs (under basis inputs repeats) instrs state)
  known-instrs [] set state good closed known = known
  known-instrs (instr ∷ instrs) set state good closed known =
      known-instrs instrs (set_after instr set) (run_instr (under basis inputs repeats) instr state) good.1 (closed-instr basis set instr good.0 closed) (known-instr instr set state good.0 closed known)

-- ---- phis that are read together

has_number : ℕ → Phi → Bool
has_number n phi = nat_eq phi.value.0 n

turned : (a b : ℕ) → nat_eq a b ≡ nat_eq b a
turned a b = by_test (nat_eq b a) refl where
  by_test : (test : Bool) → nat_eq b a ≡ test → nat_eq a b ≡ nat_eq b a
  by_test true e = eq-eqb a b (sym (eqb-true b a e)) ∙ sym e
  by_test false e = ne_eqb a b (λ same. true≢false (sym (eq-eqb b a (sym same)) ∙ e)) ∙ sym e

-- a value behind phis is one of theirs, or was there before
pub phis_or_before : (phis : List Phi) (set : Set) (n : ℕ) → set_after_phis phis set n ≡ (is_some (find (λ phi. nat_eq phi.value.0 n) phis) || set n)
phis_or_before [] set n = refl
phis_or_before (phi ∷ phis) set n =
    phis_or_before phis (with_member (Some phi.value) set) n
    ∙ ap (λ test. is_some (find (λ p. nat_eq p.value.0 n) phis) || (test || set n)) (turned n phi.value.0)
    ∙ in_turn (nat_eq phi.value.0 n) (find (λ p. nat_eq p.value.0 n) phis) (set n)
  where
    in_turn : (test : Bool) (found : Option Phi) (before : Bool) → (is_some found || (test || before)) ≡ (is_some (cond test (Some phi) found) || before)
    in_turn true None before = refl
    in_turn true (Some other) before = refl
    in_turn false found before = refl

pub none_found : (phis : List Phi) (set : Set) (n : ℕ) → find (λ phi. nat_eq phi.value.0 n) phis ≡ None → set_after_phis phis set n ≡ true → set n ≡ true
none_found phis set n none inside = sym (ap (λ found. is_some found || set n) none) ∙ sym (phis_or_before phis set n) ∙ inside

one_found : (phis : List Phi) (n : ℕ) (phi : Phi) → find (λ phi. nat_eq phi.value.0 n) phis ≡ Some phi → nat_eq phi.value.0 n ≡ true
one_found phis n phi found = found_passes (λ p. nat_eq p.value.0 n) phis phi found

pub run_one : (from : Option BlockId) (phis : List Phi) (values : Values) (n : ℕ) (found : Option Phi) → find (λ phi. nat_eq phi.value.0 n) phis ≡ found
    → run_phis from phis values n ≡ option_map_or (phi_value from values) found (values n)
run_one from phis values n found is = ap (λ one. option_map_or (phi_value from values) one (values n)) is

-- what a phi takes has its kind, along each of its edges
source_kind : (kinds : Kinds) (phi : Phi) (edge : Edge) (all : List Edge) (values : Values) → Ranges kinds edge.set values → IsEdgeOf edge all
    → AllByRecursion (λ (source : PhiSource). kinds source.value ≡ Some phi.kind) phi.sources → AllByRecursion (IsDefinedAlong all) phi.sources
    → (found : Option PhiSource) → find (is_from edge.from) phi.sources ≡ found → HasKind phi.kind (option_map_or (λ source. values source.value.0) found (zeros phi.kind))
source_kind kinds phi edge all values ranges is fits along None found = zeros_kind phi.kind
source_kind kinds phi edge all values ranges is fits along (Some source) found =
    let both = found_all (λ (s : PhiSource). (kinds s.value ≡ Some phi.kind) × IsDefinedAlong all s) (is_from edge.from) phi.sources source
    (all_both (λ (s : PhiSource). kinds s.value ≡ Some phi.kind) (IsDefinedAlong all) phi.sources fits along) found in
    ranges source.value phi.kind
    (edge_all (λ e. is_from e.from source ≡ true → e.set source.value.0 ≡ true) all both.1 edge is (found_passes (is_from edge.from) phi.sources source found)) both.0

module _ (basis : Basis) where
  pub closed-phis : (phis : List Phi) (edges all : List Edge) → AllByRecursion (PhiGood basis edges all) phis → Closed basis.makings (meet edges) → Closed basis.makings (set_after_phis phis (meet edges))
  closed-phis phis edges all good closed id making is of = in_below (meet edges) (set_after_phis phis (meet edges)) (phis_grow phis (meet edges)) making.reads (by (find (λ phi. nat_eq phi.value.0 id.0) phis) refl) where
    phis_grow : (list : List Phi) (set : Set) → IsBelow set (set_after_phis list set)
    phis_grow [] set n inside = inside
    phis_grow (phi ∷ list) set n inside = phis_grow list (with_member (Some phi.value) set) n (member_below (Some phi.value) set n inside)

    by : (found : Option Phi) → find (λ phi. nat_eq phi.value.0 id.0) phis ≡ found → AllByRecursion (IsIn (meet edges)) making.reads
    by None none = closed id making (none_found phis (meet edges) id.0 none is) of
    by (Some phi) found =
        let own = found_all (PhiGood basis edges all) (λ p. nat_eq p.value.0 id.0) phis phi good found in
        let same : phi.value ≡ id = same_id phi.value id (one_found phis id.0 phi found) in
        (own.made making (ap basis.makings same ∙ of)).reads

  -- phis change no value that is defined before them
  phis_stay : (phis : List Phi) (edges all : List Edge) (from : Option BlockId) (values : Values) → AllByRecursion (PhiGood basis edges all) phis → (n : ℕ) → meet edges n ≡ true → values n ≡ run_phis from phis values n
  phis_stay phis edges all from values good n inside = sym (by (find (λ phi. nat_eq phi.value.0 n) phis) refl) where
    by : (found : Option Phi) → find (λ phi. nat_eq phi.value.0 n) phis ≡ found → run_phis from phis values n ≡ values n
    by None none = run_one from phis values n None none
    by (Some phi) found =
        let own = found_all (PhiGood basis edges all) (λ p. nat_eq p.value.0 n) phis phi good found in
        absurd (true≢false (sym inside ∙ ap (meet edges) (sym (eqb-true phi.value.0 n (one_found phis n phi found))) ∙ own.new))

  pub known-phis : (phis : List Phi) (edges all : List Edge) (edge : Edge) (state : State) → AllByRecursion (PhiGood basis edges all) phis → Closed basis.makings (meet edges)
      → IsEdgeOf edge all → IsBelow (meet edges) edge.set → Known basis.kinds basis.makings edge.set state
      → Known basis.kinds basis.makings (set_after_phis phis (meet edges)) (record state { values = run_phis edge.from phis state.values })
  known-phis phis edges all edge state good closed is below known = record { equations = equal; ranges = sizes; bytes = known.bytes } where
    after : Values
    after = run_phis edge.from phis state.values

    stay : (n : ℕ) → meet edges n ≡ true → state.values n ≡ after n
    stay = phis_stay phis edges all edge.from state.values good

    equal : Equations basis.makings (set_after_phis phis (meet edges)) after
    equal id making inside of = by (find (λ phi. nat_eq phi.value.0 id.0) phis) refl where
      by : (found : Option Phi) → find (λ phi. nat_eq phi.value.0 id.0) phis ≡ found → after id.0 ≡ making.made after
      by None none =
          let old = none_found phis (meet edges) id.0 none inside in
          sym (stay id.0 old) ∙ known.equations id making (below id.0 old) of ∙ local_in (meet edges) making state.values after stay (closed id making old of)
      by (Some phi) found =
          let own = found_all (PhiGood basis edges all) (λ p. nat_eq p.value.0 id.0) phis phi good found in
          let same : phi.value ≡ id = same_id phi.value id (one_found phis id.0 phi found) in
          let made = own.made making (ap basis.makings same ∙ of) in
          run_one edge.from phis state.values id.0 (Some phi) found
          ∙ made.equal edge is state.values known.equations
          ∙ local_in (meet edges) making state.values after stay made.reads

    sizes : Ranges basis.kinds (set_after_phis phis (meet edges)) after
    sizes id kind inside of = by (find (λ phi. nat_eq phi.value.0 id.0) phis) refl where
      by : (found : Option Phi) → find (λ phi. nat_eq phi.value.0 id.0) phis ≡ found → HasKind kind (after id.0)
      by None none =
          let old = none_found phis (meet edges) id.0 none inside in
          subst (HasKind kind) (stay id.0 old) (known.ranges id kind (below id.0 old) of)
      by (Some phi) found =
          let own = found_all (PhiGood basis edges all) (λ p. nat_eq p.value.0 id.0) phis phi good found in
          let same : phi.value ≡ id = same_id phi.value id (one_found phis id.0 phi found) in
          let one : phi.kind ≡ kind = same_Some phi.kind kind (sym own.kind ∙ ap basis.kinds same ∙ of) in
          subst (HasKind kind) (sym (run_one edge.from phis state.values id.0 (Some phi) found))
          (subst (λ (k : Kind). HasKind k (phi_value edge.from state.values phi)) one
          (source_kind basis.kinds phi edge all state.values known.ranges is own.fits own.walked.sources (find (is_from edge.from) phi.sources) refl))

  -- ---- a block

  pub closed-block : (b : Block) (edges all : List Edge) → PartsGood basis b edges all → Closed basis.makings (meet edges) → Closed basis.makings (set_after_instrs b.instrs (set_after_phis b.phis (meet edges)))
  closed-block b edges all good closed =
      closed-instrs basis (set_after_phis b.phis (meet edges)) b.instrs good.instrs (closed-phis b.phis edges all good.phis closed)

  pub known-block : (inputs : List (List ℕ)) (repeats : ℕ) → InputsFit basis.inputs inputs → (b : Block) (edges all : List Edge) (edge : Edge) (state : State) → PartsGood basis b edges all → Closed basis.makings (meet edges)
      → IsEdgeOf edge all → IsBelow (meet edges) edge.set → Known basis.kinds basis.makings edge.set state
      → Known basis.kinds basis.makings (set_after_instrs b.instrs (set_after_phis b.phis (meet edges))) (ended (under basis inputs repeats) b edge.from state)
  known-block inputs repeats given b edges all edge state good closed is below known =
      known-instrs basis inputs repeats given b.instrs (set_after_phis b.phis (meet edges)) (entered b edge.from state) good.instrs
      (closed-phis b.phis edges all good.phis closed) (known-phis b.phis edges all edge state good.phis closed is below known)
