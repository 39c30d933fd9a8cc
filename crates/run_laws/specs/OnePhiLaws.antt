-- A phi whose sources are one value and itself has that value wherever it is defined.
use Rattle.std.specs.Prelude.{◌≡◌, ◌⊎◌, refl, ℕ, ◌+◌, Bool, true, false, not, ◌&&◌, ◌||◌, nat_eq, is_some, cond, count_by, List, [], ◌∷◌, map, Option, Some, None}
use Rattle.std.specs.List.{AllByRecursion, find, list_all, list_any}
use Rattle.std.specs.Option.{option_and_then, option_map_or, option_to_list}
use Rattle.std.proofs.Common.{sym, ◌∙◌, ap, subst, inl, inr, zero-add, ⊎_elim}
use Rattle.std.proofs.lemmas.Option.{none-some, same_Some}
use Rattle.std.proofs.lemmas.Bool.{and_from, and_parts, cond-false, cond-true, true≢false}
use Rattle.list_laws.specs.AllLaws.{passes_append}
use Rattle.list_laws.specs.OptionLaws.{found_passes}
use Rattle.nir_ir.specs.declared.ids.BlockId.{BlockId}
use Rattle.nir_ir.specs.declared.ids.ValueId.{ValueId}
use Rattle.nir_ir.specs.declared.node.Phi.{Phi}
use Rattle.nir_ir.specs.declared.node.PhiSource.{PhiSource}
use Rattle.nir_ir.specs.Definitions.{Kinds, instr_defining, is_from, phi_defining}
use Rattle.nir_ir.specs.Nodes.{Nodes}
use Rattle.nir_mean.specs.Points.{same_id}
use Rattle.run_laws.specs.Good.{TellsInstrs, TellsPhis}
use Rattle.nir_ir.specs.EditsShaped.{count_by-cons}
use Rattle.nir_ir.specs.Found.{found_all}
use Rattle.nir_validate.specs.Each.{IsDefinedAlong}
use Rattle.nir_validate.specs.Edges.{Edge, meet}
use Rattle.nir_validate.specs.Rules.{named, predecessors}
use Rattle.nir_validate.specs.Walk.{is_empty}
use Rattle.walk_laws.specs.AlongLaws.{HasBlock}
use Rattle.nir_mean.specs.Run.{phi_value}
use Rattle.nir_mean.specs.State.{zeros}
use Rattle.nir_mean.specs.Values.{Values}
use Rattle.run_laws.specs.Good.{PhiAt}
use Rattle.run_laws.specs.Known.{Basis, Equations, IsEdgeOf, PhiMade}
use Rattle.run_laws.specs.KnownLaws.{edge_all}
use Rattle.run_laws.specs.Makings.{Making, Makings, making_of, makings_of}

-- the equation of a copy
abbrev pub copy_of : ValueId → Making
copy_of value = record { reads = value ∷ []; made = λ values. values value.0; local = λ f g all. all.0 }

-- each source is the one value, or the phi itself
abbrev pub IsOneValue : ValueId → Phi → Type 0
IsOneValue value phi = AllByRecursion (λ source. (source.value ≡ value) ⊎ (source.value ≡ phi.value)) phi.sources

-- a block that is named once has a source
source_found : (block : BlockId) (sources : List PhiSource) → nat_eq (count_by (nat_eq block.0) (map (λ source. source.from.0) sources)) 1 ≡ true → is_some (find (is_from (Some block)) sources) ≡ true
source_found block [] once = absurd (true≢false (sym once))
source_found block (source ∷ sources) once = by_test (nat_eq block.0 source.from.0) refl (source_found block sources) where
  others : List ℕ
  others = map (λ (s : PhiSource). s.from.0) sources

  by_test : (test : Bool) → nat_eq block.0 source.from.0 ≡ test → (nat_eq (count_by (nat_eq block.0) others) 1 ≡ true → is_some (find (is_from (Some block)) sources) ≡ true)
      → is_some (find (is_from (Some block)) (source ∷ sources)) ≡ true
  by_test true is rest = ap is_some (cond-true (is_from (Some block) source) (Some source) (find (is_from (Some block)) sources) (ap (λ test. test || false) is))
  by_test false is rest =
      ap is_some (cond-false (is_from (Some block) source) (Some source) (find (is_from (Some block)) sources) (ap (λ test. test || false) is))
      ∙ rest (ap (λ n. nat_eq n 1) (sym (count_by-cons (nat_eq block.0) source.from.0 others ∙ ap (λ test. cond test 1 0 + count_by (nat_eq block.0) others) is ∙ zero-add (count_by (nat_eq block.0) others))) ∙ once)

-- what holds of the blocks of all edges holds of that of one
block_passes : (test : ℕ → Bool) (all : List Edge) (edge : Edge) (block : BlockId) → list_all test (predecessors all) ≡ true → IsEdgeOf edge all → edge.from ≡ Some block → test block.0 ≡ true
block_passes test [] edge block passes is from = absurd is
block_passes test (first ∷ all) edge block passes (inl same) from =
    let own = (passes_append test (map (λ (id : BlockId). id.0) (option_to_list first.from)) (predecessors all) passes).0 in
    let found : first.from ≡ Some block = ap (λ (e : Edge). e.from) (sym same) ∙ from in
    (and_parts (test block.0) true (subst (λ (o : Option BlockId). list_all test (map (λ (id : BlockId). id.0) (option_to_list o)) ≡ true) found own)).0
block_passes test (first ∷ all) edge block passes (inr is) from =
    block_passes test all edge block (passes_append test (map (λ (id : BlockId). id.0) (option_to_list first.from)) (predecessors all) passes).1 is from

-- the phi has a source for each of its edges
pub record SourceAlong (edge : Edge) (phi : Phi) : Type 0 where
  pub source : PhiSource
  pub found : find (is_from edge.from) phi.sources ≡ Some source
  pub defined : edge.set source.value.0 ≡ true

pub source_along : (edges all : List Edge) (phi : Phi) (edge : Edge) → PhiAt edges all phi → IsEdgeOf edge all → SourceAlong edge phi
source_along edges all phi edge at is = by_from edge.from refl where
  once : list_all (λ block. nat_eq (count_by (nat_eq block) (named phi)) 1) (predecessors all) ≡ true
  once =
      let blocks = predecessors all in
      let each_once = list_all (λ block. nat_eq (count_by (nat_eq block) (named phi)) 1) blocks in
      let first = and_parts (not (is_empty blocks) && each_once) (list_all (λ name. list_any (nat_eq name) blocks) (named phi)) at.walked.names in
      (and_parts (not (is_empty blocks)) each_once first.0).1

  by_found : (from : Option BlockId) → edge.from ≡ from → is_some (find (is_from from) phi.sources) ≡ true → (found : Option PhiSource) → find (is_from from) phi.sources ≡ found → SourceAlong edge phi
  by_found from came some None none = absurd (true≢false (sym some ∙ ap is_some none))
  by_found from came some (Some source) found =
      let here : find (is_from edge.from) phi.sources ≡ Some source = ap (λ o. find (is_from o) phi.sources) came ∙ found in
      record {
        source = source;
        found = here;
        defined = edge_all (λ e. is_from e.from source ≡ true → e.set source.value.0 ≡ true) all
            (found_all (IsDefinedAlong all) (is_from edge.from) phi.sources source at.walked.sources here) edge is (found_passes (is_from edge.from) phi.sources source here);
      }

  by_from : (from : Option BlockId) → edge.from ≡ from → SourceAlong edge phi
  by_from None came = absurd (true≢false (sym (edge_all HasBlock all at.named edge is) ∙ ap is_some came))
  by_from (Some block) came =
      by_found (Some block) came (source_found block phi.sources (block_passes (λ n. nat_eq (count_by (nat_eq n) (named phi)) 1) all edge block once is came)) (find (is_from (Some block)) phi.sources) refl

-- what is in each of the edges' sets is in all of them
met_by_each : (edges : List Edge) (n : ℕ) → ((edge : Edge) → IsEdgeOf edge edges → edge.set n ≡ true) → meet edges n ≡ true
met_by_each [] n h = refl
met_by_each (edge ∷ edges) n h = and_from (edge.set n) (meet edges n) (h edge (inl refl)) (met_by_each edges n (λ e is. h e (inr is)))

-- so the phi is a copy of the value, which is defined before its block
pub one_phi : (basis : Basis) (value : ValueId) (phi : Phi) → basis.makings phi.value ≡ Some (copy_of value) → IsOneValue value phi → (edges all : List Edge) → PhiAt edges all phi → PhiMade basis edges all phi (copy_of value)
one_phi basis value phi made one edges all at = record { reads = (met_by_each edges value.0 before, tt); equal = equal } where
  is_one : (edge : Edge) (along : SourceAlong edge phi) → (along.source.value ≡ value) ⊎ (along.source.value ≡ phi.value)
  is_one edge along = found_all (λ source. (source.value ≡ value) ⊎ (source.value ≡ phi.value)) (is_from edge.from) phi.sources along.source one along.found

  before : (edge : Edge) → IsEdgeOf edge edges → edge.set value.0 ≡ true
  before edge is =
      let along = source_along edges all phi edge at (at.among edge is) in
      ⊎_elim
      (λ same. subst (λ (v : ValueId). edge.set v.0 ≡ true) same along.defined)
      (λ itself. absurd (true≢false (sym (subst (λ (v : ValueId). edge.set v.0 ≡ true) itself along.defined) ∙ edge_all (λ e. e.set phi.value.0 ≡ false) edges at.new edge is)))
      (is_one edge along)

  equal : (edge : Edge) → IsEdgeOf edge all → (values : Values) → Equations basis.makings edge.set values → phi_value edge.from values phi ≡ values value.0
  equal edge is values equations =
      let along = source_along edges all phi edge at is in
      let taken : phi_value edge.from values phi ≡ values along.source.value.0 = ap (λ found. option_map_or (λ (source : PhiSource). values source.value.0) found (zeros phi.kind)) along.found in
      ⊎_elim
      (λ same. taken ∙ ap (λ (v : ValueId). values v.0) same)
      (λ itself. taken ∙ ap (λ (v : ValueId). values v.0) itself ∙ equations phi.value (copy_of value) (subst (λ (v : ValueId). edge.set v.0 ≡ true) itself along.defined) made)
      (is_one edge along)

-- ---- in a shader

-- the equations, and that the one value is a copy of the other
abbrev pub with_copy : ValueId → ValueId → Makings → Makings
with_copy copy value makings id = cond (nat_eq id.0 copy.0) (Some (copy_of value)) (makings id)

-- the equations of instructions stay, where no instruction defines the copy
pub copy_tells_instrs : (kinds : Kinds) (body : Nodes) (copy value : ValueId) → instr_defining copy body ≡ None → TellsInstrs kinds (with_copy copy value (makings_of kinds body)) body
copy_tells_instrs kinds body copy value none id instr found = by_test (nat_eq id.0 copy.0) refl where
  by_test : (test : Bool) → nat_eq id.0 copy.0 ≡ test → with_copy copy value (makings_of kinds body) id ≡ making_of kinds instr
  by_test true e = absurd (none-some instr (sym none ∙ ap (λ v. instr_defining v body) (sym (same_id id copy e)) ∙ found))
  by_test false e = cond-false (nat_eq id.0 copy.0) (Some (copy_of value)) (makings_of kinds body id) e ∙ ap (option_and_then (making_of kinds)) found

-- and that of the phi of one value holds at its place
pub copy_tells_phis : (basis : Basis) (kinds : Kinds) (body : Nodes) (phi : Phi) (value : ValueId) → basis.makings ≡ with_copy phi.value value (makings_of kinds body)
    → phi_defining phi.value body ≡ Some phi → IsOneValue value phi → TellsPhis basis body
copy_tells_phis basis kinds body phi value are defined one other making found none of edges all at = by_test (nat_eq other.value.0 phi.value.0) refl where
  told : with_copy phi.value value (makings_of kinds body) other.value ≡ Some making
  told = ap (λ (makings : Makings). makings other.value) (sym are) ∙ of

  by_test : (test : Bool) → nat_eq other.value.0 phi.value.0 ≡ test → PhiMade basis edges all other making
  by_test true e =
      let is_copy : copy_of value ≡ making = same_Some (copy_of value) making (sym (cond-true (nat_eq other.value.0 phi.value.0) (Some (copy_of value)) (makings_of kinds body other.value) e) ∙ told) in
      let same : phi ≡ other = same_Some phi other (sym defined ∙ ap (λ v. phi_defining v body) (sym (same_id other.value phi.value e)) ∙ found) in
      subst (PhiMade basis edges all other) is_copy (one_phi basis value other (of ∙ ap Some (sym is_copy)) (subst (IsOneValue value) same one) edges all at)
  by_test false e =
      absurd (none-some making (sym (ap (option_and_then (making_of kinds)) none) ∙ sym (cond-false (nat_eq other.value.0 phi.value.0) (Some (copy_of value)) (makings_of kinds body other.value) e) ∙ told))
