-- A shader keeps its shape, its validity and its meaning where instructions that compute the same stand in the place of one.
use Rattle.std.specs.Prelude.{◌≡◌, refl, ℕ, ◌<◌, ◌≤◌, Bool, true, false, ◌||◌, nat_eq, nat_lt, List, [], ◌∷◌, map, Option, Some, None}
use Rattle.std.specs.List.{AllByRecursion, flat_map}
use Rattle.std.specs.Option.{option_and_then, option_map, option_or, option_to_list}
use Rattle.std.proofs.Common.{sym, ◌∙◌, ap, subst, inl, inr, ⊎_elim, arith}
use Rattle.std.proofs.lemmas.Bool.{cond-false, cond-true, eqb-false, eqb-true, lt-ltb, ltb-true, ne_eqb}
use Rattle.std.proofs.lemmas.Option.{none-some, same_Some}
use Rattle.list_laws.specs.AllLaws.{all_back, all_each, all_of_map, given_by_each}
use Rattle.list_laws.specs.OptionLaws.{found_passes}
use Rattle.nir_ir.specs.declared.ids.ValueId.{ValueId}
use Rattle.nir_ir.specs.declared.instr.Instr.{Instr}
use Rattle.nir_ir.specs.declared.kind.Kind.{Kind}
use Rattle.nir_ir.specs.declared.node.Phi.{Phi}
use Rattle.nir_ir.specs.Definitions.{instr_defining, is_phi_of, is_target, kind_at, kind_of_target, phi_defining, phi_of}
use Rattle.nir_ir.specs.Edits.{in_place_of, replaced, with_news}
use Rattle.nir_ir.specs.EditsShaped.{target_of}
use Rattle.nir_ir.specs.Found.{found_all}
use Rattle.nir_ir.specs.Items.{Item, BlockHead, IfHead, InstrItem, JumpItem, LoopHead, PhiItem, defines, items, target, uses, values_defined}
use Rattle.nir_ir.specs.Shader.{Shader}
use Rattle.nir_ir.specs.Shaped.{IsOneOf, IsShaped}
use Rattle.edit_laws.specs.DefiningLaws.{IsFound, items_found}
use Rattle.edit_laws.specs.ItemsLaws.{target_numbers, value_defined}
use Rattle.edit_laws.specs.KindsLaws.{kind_kept}
use Rattle.edit_laws.specs.NumbersLaws.{member_has, one_of-back, one_of-front, one_of-here}
use Rattle.edit_laws.specs.PlacedLaws.{Defines, placed_define, placed_within, shaped_placed}
use Rattle.nir_validate.specs.Edges.{Set, meet, set_after, with_member}
use Rattle.nir_validate.specs.Valid.{Valid}
use Rattle.walk_laws.specs.GrownLaws.{IsBelow, in_places}
use Rattle.walk_laws.specs.PlacedLaws.{IsInPlace, replaced-changed, valid_placed}
use Rattle.nir_mean.specs.Points.{defining_target, or_other}
use Rattle.nir_mean.specs.Reads.{with_value-here, with_value-other, world_of-target}
use Rattle.nir_mean.specs.Run.{Setting, run_instr, run_instrs, value_of}
use Rattle.nir_mean.specs.Same.{InputsFit, Same}
use Rattle.nir_mean.specs.State.{State, with_target, with_value}
use Rattle.run_laws.specs.Agree.{Agree, IsItemOf}
use Rattle.run_laws.specs.AgreeLaws.{agree_less, changed_parts-mean_same}
use Rattle.run_laws.specs.Good.{Extends}
use Rattle.run_laws.specs.InPlace.{ComputesSame, InPlaceKeeps, Keeps, basis_for, values_below}
use Rattle.run_laws.specs.Known.{InstrGood, PhiGood, under}
use Rattle.run_laws.specs.KnownLaws.{edge_all}
use Rattle.run_laws.specs.Makings.{Closed, makings_of, making_of}
use Rattle.run_laws.specs.Simulates.{Kept, Simulates, Tied}
use Rattle.run_laws.specs.UnchangedLaws.{IsKept, condition_unchanged, instr_unchanged, phis_unchanged}

-- ---- items of a shaped shader

-- what holds of each item holds of one
item_has : (P : Item → Type 0) (list : List Item) → AllByRecursion P list → (item : Item) → IsItemOf list item → P item
item_has P [] all item is = absurd is
item_has P (first ∷ list) all item (inl same) = subst P (sym same) all.0
item_has P (first ∷ list) all item (inr is) = item_has P list all.1 item is

-- what an item of a shader uses is below its next number
pub uses_below : (s : Shader) → IsShaped s → (item : Item) → IsItemOf (items s.body) item → AllByRecursion (IsKept (values_below s.next_value)) (uses item)
uses_below s shaped item is =
    all_each (λ id. IsOneOf (values_defined s.body) id.0) (IsKept (values_below s.next_value))
    (λ id among. lt-ltb id.0 s.next_value (member_has (λ v. v < s.next_value) (values_defined s.body) id.0 shaped.below among)) (uses item)
    (all_of_map (λ (v : ValueId). v.0) (IsOneOf (values_defined s.body)) (uses item)
    (item_has (λ i. AllByRecursion (IsOneOf (values_defined s.body)) (map (λ v. v.0) (uses i))) (items s.body)
    (given_by_each (IsOneOf (values_defined s.body)) (λ i. map (λ v. v.0) (uses i)) (items s.body) shaped.uses) item is))

-- an instruction of a shader is the one that defines its value
found_for : (s : Shader) → IsShaped s → (instr : Instr) → IsItemOf (items s.body) (InstrItem instr) → (id : ValueId) → target instr ≡ Some id → instr_defining id s.body ≡ Some instr
found_for s shaped instr is id aims = (item_has (IsFound (items s.body)) (items s.body) (items_found s shaped) (InstrItem instr) is id aims).found

-- a value that has a kind is below it
phis_below : (next : ℕ) (list : List Item) → AllByRecursion (λ v. v < next) (flat_map (λ item. map (λ id. id.0) (defines item)) list) → AllByRecursion (λ (phi : Phi). phi.value.0 < next) (flat_map phi_of list)
phis_below next [] all = tt
phis_below next (BlockHead id ∷ list) all = phis_below next list all
phis_below next (PhiItem phi ∷ list) all = (all.0, phis_below next list all.1)
phis_below next (InstrItem instr ∷ list) all =
    phis_below next list (all_back (λ v. v < next) (map (λ id. id.0) (defines (InstrItem instr))) (flat_map (λ item. map (λ id. id.0) (defines item)) list) all)
phis_below next (JumpItem jump ∷ list) all = phis_below next list all
phis_below next (IfHead id condition ∷ list) all = phis_below next list all
phis_below next (LoopHead id ∷ list) all = phis_below next list all

pub kind_below : (s : Shader) → IsShaped s → (id : ValueId) (kind : Kind) → kind_at s.body id ≡ Some kind → id.0 < s.next_value
kind_below s shaped id kind is = by (instr_defining id s.body) refl where
  of_phi : (found : Option Phi) → phi_defining id s.body ≡ found → option_map (λ phi. phi.kind) found ≡ Some kind → id.0 < s.next_value
  of_phi None found none = absurd (none-some kind none)
  of_phi (Some phi) found some =
      subst (λ n. n < s.next_value) (eqb-true phi.value.0 id.0 (found_passes (is_phi_of id) (flat_map phi_of (items s.body)) phi found))
      (found_all (λ (p : Phi). p.value.0 < s.next_value) (is_phi_of id) (flat_map phi_of (items s.body)) phi (phis_below s.next_value (items s.body) shaped.below) found)

  by : (found : Option Instr) → instr_defining id s.body ≡ found → id.0 < s.next_value
  by (Some instr) found = member_has (λ v. v < s.next_value) (values_defined s.body) id.0 shaped.below (value_defined id instr s.body found)
  by None found =
      of_phi (phi_defining id s.body) refl
      (sym (ap (λ own. option_or (option_and_then kind_of_target own) (option_map (λ (p : Phi). p.kind) (phi_defining id s.body))) found) ∙ is)

-- ---- what new instructions leave

-- instructions that define values do nothing outside of them
quiet : (m : Setting) (list : List Instr) (state : State) → AllByRecursion Defines list → (run_instrs m list state).world ≡ state.world
quiet m [] state define = refl
quiet m (instr ∷ list) state define = quiet m list (run_instr m instr state) define.1 ∙ world_of-target m instr state define.0.0 define.0.1

-- a value that none of them defines stays
stays : (m : Setting) (list : List Instr) (state : State) (n : ℕ) → (IsOneOf (flat_map target_numbers list) n → ⊥) → (run_instrs m list state).values n ≡ state.values n
stays m [] state n out = refl
stays m (instr ∷ list) state n out =
    stays m list (run_instr m instr state) n (λ is. out (one_of-back (target_numbers instr) (flat_map target_numbers list) n is))
    ∙ one (target instr) (λ is. out (one_of-front (target_numbers instr) (flat_map target_numbers list) n is))
  where
    one : (found : Option ValueId) → (IsOneOf (map (λ (id : ValueId). id.0) (option_to_list found)) n → ⊥) → with_target found (value_of m instr state) state.values n ≡ state.values n
    one None others = refl
    one (Some id) others = with_value-other id (value_of m instr state) state.values n (ne_eqb n id.0 (λ same. others (subst (IsOneOf (id.0 ∷ [])) (sym same) (one_of-here id.0 []))))

-- ---- in place of one

module _ (s : Shader) (value : ValueId) (old : Instr) (news : List Instr) (after : ℕ) (shaped : IsShaped s) (place : IsInPlace s value old news after) where
  low : value.0 < s.next_value
  low = member_has (λ v. v < s.next_value) (values_defined s.body) value.0 shaped.below (value_defined value old s.body place.defined)

  -- an old value other than this one is not among the new ones
  no_new : (n : ℕ) → n < s.next_value → nat_eq n value.0 ≡ false → IsOneOf (flat_map target_numbers news) n → ⊥
  no_new n below other is =
      ⊎_elim (λ same. eqb-false n value.0 other same) (λ within. absurd (let high : s.next_value ≤ n = within.0 in omega (arith, high, below)))
      (placed_within s.next_value after value news place.placed n is)

  -- the new instructions in the place of the old one
  news_kept : ComputesSame s (with_news s value news after) value old news → (inputs : List (List ℕ)) (repeats : ℕ) → InputsFit s.inputs inputs → (set : Set)
      → InstrGood (basis_for s (with_news s value news after)) set old → Closed (makings_of (kind_at (replaced value news s.body)) s.body) set → (f g : State)
      → Tied (basis_for s (with_news s value news after)) (Agree (values_below s.next_value)) set f g
      → Kept (Agree (values_below s.next_value)) (set_after old set) (run_instr (under (basis_for s (with_news s value news after)) inputs repeats) old f)
      (run_instrs (under (basis_for s (with_news s value news after)) inputs repeats) news g)
  news_kept computes inputs repeats given set good closed f g tied = record {
    related = λ n inside is. related n (subst (λ (found : Option ValueId). with_member found set n ≡ true) aims inside) is;
    world = world_of-target m old f value aims ∙ tied.world ∙ sym (quiet m news g (placed_define s.next_value after value news place.placed));
  } where
    m : Setting
    m = under (basis_for s (with_news s value news after)) inputs repeats

    aims : target old ≡ Some value
    aims = defining_target s.body value old place.defined

    made : List ℕ
    made = value_of m old f

    behind : (n : ℕ) → (run_instr m old f).values n ≡ with_value value made f.values n
    behind n = ap (λ found. with_target found made f.values n) aims

    related : (n : ℕ) → (nat_eq n value.0 || set n) ≡ true → nat_lt n s.next_value ≡ true → (run_instr m old f).values n ≡ (run_instrs m news g).values n
    related n inside is = by_test (nat_eq n value.0) refl where
      by_test : (test : Bool) → nat_eq n value.0 ≡ test → (run_instr m old f).values n ≡ (run_instrs m news g).values n
      by_test true e =
          behind n
          ∙ ap (with_value value made f.values) (eqb-true n value.0 e)
          ∙ with_value-here value made f.values
          ∙ sym (computes inputs repeats set f g given good closed tied)
          ∙ ap (run_instrs m news g).values (sym (eqb-true n value.0 e))
      by_test false e =
          behind n
          ∙ with_value-other value made f.values n e
          ∙ tied.related n (or_other (nat_eq n value.0) (set n) e inside) is
          ∙ sym (stays m news g n (no_new n (ltb-true n s.next_value is) e))

  simulates : ComputesSame s (with_news s value news after) value old news → (inputs : List (List ℕ)) (repeats : ℕ) → InputsFit s.inputs inputs
      → Simulates (basis_for s (with_news s value news after)) (Agree (values_below s.next_value)) inputs repeats (in_places (in_place_of value news))
  simulates computes inputs repeats given = record {
    less = agree_less (values_below s.next_value);
    instr = instr_kept;
    phis = λ b edges all at edge listed f g tied.
        phis_unchanged (basis_for s (with_news s value news after)) (values_below s.next_value) b.phis edges all at.good.phis
        (all_each (PhiGood (basis_for s (with_news s value news after)) edges all) (λ phi. IsKept (values_below s.next_value) phi.value → AllByRecursion (IsKept (values_below s.next_value)) (uses (PhiItem phi)))
        (λ phi good kept. uses_below s shaped (PhiItem phi) good.other) b.phis at.good.phis)
        edge listed (edge_all (λ e. IsBelow (meet edges) e.set) all at.under edge listed) f.values g.values tied.related;
    condition = λ id condition edges at f g tied.
        condition_unchanged (basis_for s (with_news s value news after)) (values_below s.next_value) condition edges at
        (uses_below s shaped (IfHead at.good.other.0 condition) at.good.other.1).0 f g tied;
  } where
    instr_kept : (instr : Instr) (set : Set) → InstrGood (basis_for s (with_news s value news after)) set instr → Closed (makings_of (kind_at (replaced value news s.body)) s.body) set → (f g : State)
        → Tied (basis_for s (with_news s value news after)) (Agree (values_below s.next_value)) set f g
        → Kept (Agree (values_below s.next_value)) (set_after instr set) (run_instr (under (basis_for s (with_news s value news after)) inputs repeats) instr f)
        (run_instrs (under (basis_for s (with_news s value news after)) inputs repeats) (in_place_of value news instr) g)
    instr_kept instr set good closed f g tied = by_test (is_target value instr) refl where
      m : Setting
      m = under (basis_for s (with_news s value news after)) inputs repeats

      of_old : instr ≡ old → Kept (Agree (values_below s.next_value)) (set_after instr set) (run_instr m instr f) (run_instrs m news g)
      of_old same =
          subst (λ (i : Instr). Kept (Agree (values_below s.next_value)) (set_after i set) (run_instr m i f) (run_instrs m news g)) (sym same)
          (news_kept computes inputs repeats given set (subst (InstrGood (basis_for s (with_news s value news after)) set) same good) closed f g tied)

      by_test : (test : Bool) → is_target value instr ≡ test → Kept (Agree (values_below s.next_value)) (set_after instr set) (run_instr m instr f) (run_instrs m (in_place_of value news instr) g)
      by_test true is =
          let aims : target instr ≡ Some value = target_of value instr is in
          subst (λ list. Kept (Agree (values_below s.next_value)) (set_after instr set) (run_instr m instr f) (run_instrs m list g)) (sym (cond-true (is_target value instr) news (instr ∷ []) is))
          (of_old (same_Some instr old (sym (found_for s shaped instr good.other value aims) ∙ place.defined)))
      by_test false is =
          subst (λ list. Kept (Agree (values_below s.next_value)) (set_after instr set) (run_instr m instr f) (run_instrs m list g)) (sym (cond-false (is_target value instr) news (instr ∷ []) is))
          (instr_unchanged (basis_for s (with_news s value news after)) (values_below s.next_value) inputs repeats instr set good (uses_below s shaped (InstrItem instr) good.other) f g tied)

  pub in_place_keeps : Valid s → ComputesSame s (with_news s value news after) value old news → Keeps s (with_news s value news after)
  in_place_keeps valid computes = record { shaped = new_shaped; valid = valid_placed s value old news after shaped valid place; same = same } where
    new_shaped : IsShaped (with_news s value news after)
    new_shaped = shaped_placed s value old news after shaped place.defined place.placed place.shaped

    more_kinds : Extends (kind_at (replaced value news s.body)) (kind_at s.body)
    more_kinds id kind is = kind_kept s value id old news after shaped place.defined place.placed low place.kind (kind_below s shaped id kind is) ∙ is

    same : Same s (with_news s value news after)
    same =
        changed_parts-mean_same s (with_news s value news after) (in_places (in_place_of value news)) (kind_at (replaced value news s.body)) (makings_of (kind_at (replaced value news s.body)) s.body)
        (values_below s.next_value) shaped new_shaped valid
        (record {
          inputs = refl;
          outputs = refl;
          buffers = refl;
          old_kinds = more_kinds;
          new_kinds = λ id kind is. is;
          instrs = λ id instr found. ap (option_and_then (making_of (kind_at (replaced value news s.body)))) found;
          phis = λ phi making found none of edges all at. absurd (none-some making (sym (ap (option_and_then (making_of (kind_at (replaced value news s.body)))) none) ∙ of));
        })
        (replaced-changed value news s.body) (simulates computes)

pub in_place-keeps : InPlaceKeeps
in_place-keeps s value old news after shaped valid place computes = in_place_keeps s value old news after shaped place valid computes
