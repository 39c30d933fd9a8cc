-- Shaders whose values agree on a set of numbers mean the same.
use Rattle.std.specs.Prelude.{◌≡◌, refl, ℕ, nat_eq, List, [], ◌∷◌, ◌++◌, map, Option, Some, None}
use Rattle.std.specs.List.{AllByRecursion, flat_map, list_any}
use Rattle.std.specs.Option.{option_and_then, option_map, option_or, option_to_list}
use Rattle.std.proofs.Common.{sym, ◌∙◌, ap, subst, inl, inr, ⊎_elim}
use Rattle.std.proofs.lemmas.Bool.{or_cases, true≢false}
use Rattle.list_laws.specs.AllLaws.{all_each, all_of_map, given_by_each}
use Rattle.nir_ir.specs.declared.ids.ValueId.{ValueId}
use Rattle.nir_ir.specs.declared.kind.Kind.{Kind}
use Rattle.nir_ir.specs.declared.node.Phi.{Phi}
use Rattle.nir_ir.specs.Definitions.{kind_of_target, phi_defining}
use Rattle.nir_ir.specs.Items.{BlockHead, IfHead, InstrItem, JumpItem, LoopHead, PhiItem, defines, target, values_defined}
use Rattle.nir_ir.specs.Nodes.{Nodes}
use Rattle.nir_ir.specs.Shaped.{IsOneOf}
use Rattle.nir_validate.specs.Each.{Each}
use Rattle.nir_mean.specs.Points.{kind_at-defines, same_id}
use Rattle.nir_mean.specs.Reads.{kind_of_target-found}
use Rattle.nir_mean.specs.Same.{InputsFit}
use Rattle.nir_mean.specs.Values.{Values}
use Rattle.run_laws.specs.Follows.{Follows, Naming}
use Rattle.edit_laws.specs.DefiningLaws.{IsFound, PhiFound, items_found}
use Rattle.run_laws.specs.Known.{BlockGood, ConditionGood}
use Rattle.run_laws.specs.SimulatesLaws.{changed_follows, follow-do_same}
use Rattle.nir_ir.specs.Definitions.{Kinds, kind_at}
use Rattle.nir_ir.specs.Items.{Item, items, uses}
use Rattle.nir_ir.specs.Shader.{Shader}
use Rattle.nir_ir.specs.Shaped.{IsShaped}
use Rattle.nir_validate.specs.Edges.{Set}
use Rattle.nir_validate.specs.Valid.{Valid}
use Rattle.nir_validate.specs.Walk.{entry}
use Rattle.nir_mean.specs.Same.{Same}
use Rattle.run_laws.specs.Agree.{Agree, AlikePartsMeanSame, AreCompared, ChangedPartsMeanSame, IsItemOf, basis_in}
use Rattle.run_laws.specs.FollowsLaws.{follows}
use Rattle.run_laws.specs.Good.{Extends}
use Rattle.run_laws.specs.GoodLaws.{valid-is_good}
use Rattle.run_laws.specs.KindsLaws.{UsesAlike}
use Rattle.walk_laws.specs.GrownLaws.{IsBelow}
use Rattle.run_laws.specs.Known.{under}
use Rattle.run_laws.specs.Makings.{Makings}
use Rattle.run_laws.specs.Simulates.{Tied, same_names}
use Rattle.run_laws.specs.SimulatesLaws.{closed-none, tied}

-- each item of a list is one of it
pub items_of : (list : List Item) → AllByRecursion (IsItemOf list) list
items_of [] = tt
items_of (item ∷ list) = (inl refl, all_each (IsItemOf list) (IsItemOf (item ∷ list)) (λ _ is. inr is) list (items_of list))

-- values that are used have kinds
phi_kind : (body : Nodes) (phi : Phi) → PhiFound (items body) phi → kind_at body phi.value ≡ Some phi.kind
phi_kind body phi found =
    ap (λ own. option_or (option_and_then kind_of_target own) (option_map (λ (p : Phi). p.kind) (phi_defining phi.value body))) found.none
    ∙ ap (λ own. option_map (λ (p : Phi). p.kind) own) found.found

abbrev HasKindIn : Nodes → ValueId → Type 0
HasKindIn body id = (kind : Kind) × (kind_at body id ≡ Some kind)

kind_among : (body : Nodes) (id : ValueId) (list : List Item) → AllByRecursion (IsFound (items body)) list → IsOneOf (flat_map (λ item. map (λ v. v.0) (defines item)) list) id.0 → HasKindIn body id
kind_among body id [] found is = absurd (true≢false (sym is))
kind_among body id (BlockHead block ∷ list) found is = kind_among body id list found.1 is
kind_among body id (PhiItem phi ∷ list) found is =
    ⊎_elim (λ same. (phi.kind, ap (kind_at body) (same_id id phi.value same) ∙ phi_kind body phi found.0)) (λ more. kind_among body id list found.1 more)
    (or_cases (nat_eq id.0 phi.value.0) (list_any (nat_eq id.0) (flat_map (λ item. map (λ v. v.0) (defines item)) list)) is)
kind_among body id (InstrItem instr ∷ list) found is = by (kind_among body id list found.1) (target instr) refl where
  rest : List ℕ
  rest = flat_map (λ item. map (λ v. v.0) (defines item)) list

  by : (IsOneOf rest id.0 → HasKindIn body id) → (own : Option ValueId) → target instr ≡ own → HasKindIn body id
  by behind None none = behind (subst (λ (o : Option ValueId). IsOneOf (map (λ v. v.0) (option_to_list o) ++ rest) id.0) none is)
  by behind (Some own) some =
      let kind = kind_of_target-found instr own some in
      ⊎_elim
      (λ same. (kind.0, ap (kind_at body) (same_id id own same) ∙ kind_at-defines body own instr kind.0 (found.0 own some).found kind.1))
      behind
      (or_cases (nat_eq id.0 own.0) (list_any (nat_eq id.0) rest) (subst (λ (o : Option ValueId). IsOneOf (map (λ v. v.0) (option_to_list o) ++ rest) id.0) some is))
kind_among body id (JumpItem jump ∷ list) found is = kind_among body id list found.1 is
kind_among body id (IfHead branch condition ∷ list) found is = kind_among body id list found.1 is
kind_among body id (LoopHead loop ∷ list) found is = kind_among body id list found.1 is

-- in a shaped shader kinds of more values agree on those that are used
pub uses_agree : (s : Shader) (kinds : Kinds) → IsShaped s → Extends kinds (kind_at s.body) → AllByRecursion (UsesAlike kinds (kind_at s.body)) (items s.body)
uses_agree s kinds shaped extends =
    all_each (λ item. AllByRecursion (IsOneOf (values_defined s.body)) (map (λ v. v.0) (uses item))) (UsesAlike kinds (kind_at s.body)) in_item (items s.body)
    (given_by_each (IsOneOf (values_defined s.body)) (λ item. map (λ v. v.0) (uses item)) (items s.body) shaped.uses)
  where
    one : (id : ValueId) → IsOneOf (values_defined s.body) id.0 → kinds id ≡ kind_at s.body id
    one id is = let has = kind_among s.body id (items s.body) (items_found s shaped) is in extends id has.0 has.1 ∙ sym has.1

    in_item : (item : Item) → AllByRecursion (IsOneOf (values_defined s.body)) (map (λ v. v.0) (uses item)) → UsesAlike kinds (kind_at s.body) item
    in_item item all =
        all_each (λ id. IsOneOf (values_defined s.body) id.0) (λ id. kinds id ≡ kind_at s.body id) one (uses item)
        (all_of_map (λ (v : ValueId). v.0) (IsOneOf (values_defined s.body)) (uses item) all)

turned_uses : (kinds other : Kinds) (list : List Item) → AllByRecursion (UsesAlike kinds other) list → AllByRecursion (UsesAlike other kinds) list
turned_uses kinds other list all =
    all_each (UsesAlike kinds other) (UsesAlike other kinds) (λ item is. all_each (λ id. kinds id ≡ other id) (λ id. other id ≡ kinds id) (λ id same. sym same) (uses item) is) list all

pub agree_less : (kept a b : Set) (f g : Values) → IsBelow a b → Agree kept b f g → Agree kept a f g
agree_less kept a b f g below agree n inside is = agree n (below n inside) is

-- lists that follow mean the same
follow_same : (s t : Shader) (kinds : Kinds) (makings : Makings) (kept : Set) (ρ : Naming) → IsShaped s → IsShaped t → AreCompared s t kinds makings → ρ None ≡ None
    → ((inputs : List (List ℕ)) (repeats : ℕ) → InputsFit s.inputs inputs
    → Follows (under (basis_in s kinds makings) inputs repeats) (Tied (basis_in s kinds makings) (Agree kept)) ρ s.body t.body (entry ∷ []) []) → Same s t
follow_same s t kinds makings kept ρ shaped other compared named goes = record {
  inputs = compared.inputs;
  outputs = compared.outputs;
  buffers = compared.buffers;
  outcomes = λ inputs buffers repeats given bytes.
      follow-do_same (basis_in s kinds makings) (Agree kept) ρ s t inputs buffers repeats
      (turned_uses kinds (kind_at s.body) (items s.body) (uses_agree s kinds shaped compared.old_kinds))
      (uses_agree t kinds other compared.new_kinds)
      compared.outputs bytes.bytes (λ f g n inside is. absurd (true≢false (sym inside))) (tied (basis_in s kinds makings) (Agree kept) (agree_less kept)) named (goes inputs repeats given);
}

each_in : (s t : Shader) (kinds : Kinds) (makings : Makings) → IsShaped s → Valid s → AreCompared s t kinds makings
    → Each (BlockGood (basis_in s kinds makings)) (ConditionGood (basis_in s kinds makings)) s.body (entry ∷ []) []
each_in s t kinds makings shaped valid compared =
    valid-is_good s kinds makings (IsItemOf (items s.body)) shaped valid compared.old_kinds compared.instrs compared.phis (items_of (items s.body))

pub changed_parts-mean_same : ChangedPartsMeanSame
changed_parts-mean_same s t c kinds makings kept shaped other valid compared body simulates =
    let basis = basis_in s kinds makings in
    follow_same s t kinds makings kept same_names shaped other compared refl
    (λ inputs repeats given.
    subst (λ nodes. Follows (under basis inputs repeats) (Tied basis (Agree kept)) same_names s.body nodes (entry ∷ []) []) (sym body)
    (changed_follows basis (Agree kept) inputs repeats c given (simulates inputs repeats given) s.body (entry ∷ []) [] (record { parts = each_in s t kinds makings shaped valid compared; closed = closed-none basis; again = tt; below = tt })))

pub alike_parts-mean_same : AlikePartsMeanSame
alike_parts-mean_same s t kinds makings kept ρ shaped other valid compared named alike =
    let basis = basis_in s kinds makings in
    follow_same s t kinds makings kept ρ shaped other compared named
    (λ inputs repeats given. follows (Tied basis (Agree kept)) ρ (tied basis (Agree kept) (agree_less kept)) (under basis inputs repeats) s.body t.body (entry ∷ []) [] (alike inputs repeats given))
