-- Parts that do what others did, where values agree on those that are kept: a part that is not changed, an instruction in another's place, and none.
use Rattle.std.specs.Prelude.{◌≡◌, refl, ℕ, Bool, true, false, ◌||◌, nat_eq, List, Option, Some, None, slice_index}
use Rattle.std.specs.List.{AllByRecursion, find}
use Rattle.std.specs.Option.{option_map_or}
use Rattle.std.proofs.Common.{sym, ◌∙◌, ap, subst}
use Rattle.std.proofs.lemmas.Bool.{eqb-true, true≢false}
use Rattle.list_laws.specs.AllLaws.{all_both, all_of_map}
use Rattle.list_laws.specs.OptionLaws.{found_passes}
use Rattle.nir_ir.specs.declared.ids.ValueId.{ValueId}
use Rattle.nir_ir.specs.declared.instr.Instr.{Instr}
use Rattle.nir_ir.specs.declared.node.Phi.{Phi}
use Rattle.nir_ir.specs.declared.node.PhiSource.{PhiSource}
use Rattle.nir_ir.specs.Definitions.{is_from}
use Rattle.nir_ir.specs.Found.{found_all}
use Rattle.nir_ir.specs.Items.{PhiItem, reads, target, uses}
use Rattle.nir_validate.specs.Each.{IsDefinedAlong}
use Rattle.nir_validate.specs.Edges.{Edge, Set, meet, set_after, set_after_phis, with_member}
use Rattle.walk_laws.specs.GrownLaws.{IsBelow}
use Rattle.nir_mean.specs.Points.{or_other, same_id}
use Rattle.nir_mean.specs.Reads.{SameRead, value_of-same, with_value-here, with_value-other, world_of-same, world_of-target}
use Rattle.nir_mean.specs.Run.{Setting, run_instr, run_phis, scalar, value_of, world_of}
use Rattle.nir_mean.specs.State.{State, with_target, with_value, zeros}
use Rattle.nir_mean.specs.Values.{Values}
use Rattle.run_laws.specs.Agree.{Agree}
use Rattle.run_laws.specs.KindsLaws.{all_get}
use Rattle.run_laws.specs.Known.{Basis, InstrGood, IsEdgeOf, PhiGood, under}
use Rattle.run_laws.specs.KnownLaws.{edge_all, none_found, run_one}
use Rattle.run_laws.specs.Simulates.{ConditionAt, Kept, Tied}

-- a value that is used is kept
abbrev pub IsKept : Set → ValueId → Type 0
IsKept kept id = kept id.0 ≡ true

-- values that agree go on to agree where both are written the same
pub agree_written : (kept set : Set) (found : Option ValueId) (a b : List ℕ) (f g : Values) → a ≡ b → Agree kept set f g → Agree kept (with_member found set) (with_target found a f) (with_target found b g)
agree_written kept set None a b f g same agree n inside is = agree n inside is
agree_written kept set (Some id) a b f g same agree n inside is = by_test (nat_eq n id.0) refl where
  by_test : (test : Bool) → nat_eq n id.0 ≡ test → with_value id a f n ≡ with_value id b g n
  by_test true e = ap (λ (v : ValueId). with_value id a f v.0) here ∙ with_value-here id a f ∙ same ∙ sym (with_value-here id b g) ∙ ap (λ (v : ValueId). with_value id b g v.0) (sym here) where
    here : record { 0 = n } ≡ id
    here = same_id (record { 0 = n }) id e
  by_test false e = with_value-other id a f n e ∙ agree n (or_other (nat_eq n id.0) (set n) e inside) is ∙ sym (with_value-other id b g n e)

-- ---- an instruction in another's place, and none

-- another instruction that defines the same value, makes the same and does the same
pub instr_alike : (m : Setting) (kept set : Set) (instr other : Instr) (s t : State) → target other ≡ target instr → value_of m instr s ≡ value_of m other t → world_of m instr s ≡ world_of m other t
    → Agree kept set s.values t.values → Kept (Agree kept) (set_after instr set) (run_instr m instr s) (run_instr m other t)
instr_alike m kept set instr other s t aims made done agree = record {
  related = subst (λ (found : Option ValueId). Agree kept (set_after instr set) (run_instr m instr s).values (with_target found (value_of m other t) t.values)) (sym aims)
      (agree_written kept set (target instr) (value_of m instr s) (value_of m other t) s.values t.values made agree);
  world = done;
}

-- no instruction, in the place of one whose value is not kept
pub instr_dropped : (m : Setting) (kept set : Set) (instr : Instr) (id : ValueId) (s t : State) → target instr ≡ Some id → kept id.0 ≡ false
    → Agree kept set s.values t.values → s.world ≡ t.world → Kept (Agree kept) (set_after instr set) (run_instr m instr s) t
instr_dropped m kept set instr id s t aims gone agree same = record {
  related = λ n inside is. by_test n (nat_eq n id.0) refl (subst (λ (found : Option ValueId). with_member found set n ≡ true) aims inside) is;
  world = world_of-target m instr s id aims ∙ same;
} where
  behind : (n : ℕ) → (run_instr m instr s).values n ≡ with_value id (value_of m instr s) s.values n
  behind n = ap (λ found. with_target found (value_of m instr s) s.values n) aims

  by_test : (n : ℕ) (test : Bool) → nat_eq n id.0 ≡ test → (nat_eq n id.0 || set n) ≡ true → kept n ≡ true → (run_instr m instr s).values n ≡ t.values n
  by_test n true e inside is = absurd (true≢false (sym is ∙ ap kept (eqb-true n id.0 e) ∙ gone))
  by_test n false e inside is = behind n ∙ with_value-other id (value_of m instr s) s.values n e ∙ agree n (or_other (nat_eq n id.0) (set n) e inside) is

-- ---- what is not changed

module _ (basis : Basis) (kept : Set) where
  -- an instruction
  pub instr_unchanged : (inputs : List (List ℕ)) (repeats : ℕ) (instr : Instr) (set : Set) → InstrGood basis set instr → AllByRecursion (IsKept kept) (reads instr) → (s t : State) → Tied basis (Agree kept) set s t
      → Kept (Agree kept) (set_after instr set) (run_instr (under basis inputs repeats) instr s) (run_instr (under basis inputs repeats) instr t)
  instr_unchanged inputs repeats instr set good used s t tied =
      let m = under basis inputs repeats in
      let same : SameRead instr s.values t.values = λ id at. tied.related id.0 (good.reads id at) (all_get (IsKept kept) (reads instr) used id at.0 at.1) in
      let made : value_of m instr s ≡ value_of m instr t = value_of-same m m instr s t refl (λ _ _. refl) same tied.world in
      record {
        related = agree_written kept set (target instr) (value_of m instr s) (value_of m instr t) s.values t.values made tied.related;
        world = world_of-same m m instr s t (λ _ _. refl) same tied.world;
      }

  -- what a phi takes along one of its edges
  taken_same : (phi : Phi) (edge : Edge) (all : List Edge) (f g : Values) → Agree kept edge.set f g → IsEdgeOf edge all → AllByRecursion (IsDefinedAlong all) phi.sources
      → AllByRecursion (λ (source : PhiSource). IsKept kept source.value) phi.sources
      → (found : Option PhiSource) → find (is_from edge.from) phi.sources ≡ found
      → option_map_or (λ source. f source.value.0) found (zeros phi.kind) ≡ option_map_or (λ source. g source.value.0) found (zeros phi.kind)
  taken_same phi edge all f g agree is along used None found = refl
  taken_same phi edge all f g agree is along used (Some source) found =
      let both = found_all (λ (s : PhiSource). IsDefinedAlong all s × IsKept kept s.value) (is_from edge.from) phi.sources source
      (all_both (IsDefinedAlong all) (λ (s : PhiSource). IsKept kept s.value) phi.sources along used) found in
      agree source.value.0 (edge_all (λ e. is_from e.from source ≡ true → e.set source.value.0 ≡ true) all both.0 edge is (found_passes (is_from edge.from) phi.sources source found)) both.1

  -- phis, where what the kept ones use is kept
  pub phis_unchanged : (phis : List Phi) (edges all : List Edge) → AllByRecursion (PhiGood basis edges all) phis
      → AllByRecursion (λ phi. IsKept kept phi.value → AllByRecursion (IsKept kept) (uses (PhiItem phi))) phis
      → (edge : Edge) → IsEdgeOf edge all → IsBelow (meet edges) edge.set → (f g : Values) → Agree kept edge.set f g
      → Agree kept (set_after_phis phis (meet edges)) (run_phis edge.from phis f) (run_phis edge.from phis g)
  phis_unchanged phis edges all good used edge is below f g agree n inside keeps = by (find (λ phi. nat_eq phi.value.0 n) phis) refl where
    by : (found : Option Phi) → find (λ phi. nat_eq phi.value.0 n) phis ≡ found → run_phis edge.from phis f n ≡ run_phis edge.from phis g n
    by None none =
        run_one edge.from phis f n None none ∙ agree n (below n (none_found phis (meet edges) n none inside)) keeps ∙ sym (run_one edge.from phis g n None none)
    by (Some phi) found =
        let uses_kept = λ (p : Phi). IsKept kept p.value → AllByRecursion (IsKept kept) (uses (PhiItem p)) in
        let own = found_all (λ p. PhiGood basis edges all p × uses_kept p) (λ p. nat_eq p.value.0 n) phis phi (all_both (PhiGood basis edges all) uses_kept phis good used) found in
        let here : IsKept kept phi.value = ap kept (eqb-true phi.value.0 n (found_passes (λ p. nat_eq p.value.0 n) phis phi found)) ∙ keeps in
        run_one edge.from phis f n (Some phi) found
        ∙ taken_same phi edge all f g agree is own.0.walked.sources (all_of_map (λ (source : PhiSource). source.value) (IsKept kept) phi.sources (own.1 here)) (find (is_from edge.from) phi.sources) refl
        ∙ sym (run_one edge.from phis g n (Some phi) found)

  -- a condition
  pub condition_unchanged : (condition : ValueId) (edges : List Edge) → ConditionAt basis condition edges → IsKept kept condition → (s t : State) → Tied basis (Agree kept) (meet edges) s t
      → nat_eq (scalar s.values condition) 1 ≡ nat_eq (scalar t.values condition) 1
  condition_unchanged condition edges at used s t tied = ap (λ comps. nat_eq (slice_index comps 0) 1) (tied.related condition.0 at.good.defined used)
