-- An index that is kept up where instructions take the place of one says of each value what is so then.
use Rattle.std.proofs.Common.{◌≡◌, refl, ℕ, zero, suc, ◌+◌, ◌-◌, ◌<◌, ◌≤◌, ⊎_elim, false, cond, List, [], ◌∷◌, ◌++◌, length, set, get_or, sym, ◌∙◌, ap, subst, arith, zero-add, append-nil}
use Rattle.std.specs.Prelude.{Option, Some, None, Result, Ok, Err, OnErr, slice_get, slice_index, nat_eq, count_by, replicate, ◌||◌, IsSome}
use Rattle.std.specs.List.{find, flat_map, list_any}
use Rattle.std.specs.Option.{option_and_then, option_map, option_or, option_to_list, unwrap_or}
use Rattle.std.proofs.lemmas.Bool.{cases_lt, ne_eqb, true≢false}
use Rattle.std.proofs.lemmas.List.{length-append, length-replicate}
use Rattle.std.proofs.lemmas.List.Folds.{find-append}
use Rattle.std.proofs.lemmas.Option.{get_or_from_slice_get, none-some, slice_get-get_or, slice_get_past, slice_get_within, unwrap_or-slice_get}
use Rattle.list_laws.specs.OptionLaws.{option_or-assoc}
use Rattle.nir_ir.specs.declared.ids.ValueId.{ValueId}
use Rattle.nir_ir.specs.declared.instr.Instr.{Instr}
use Rattle.nir_ir.specs.Definitions.{instr_defining, is_phi_of, is_target, phi_defining}
use Rattle.nir_ir.specs.Edits.{ArePlaced, replaced, with_news}
use Rattle.nir_ir.specs.EditsShaped.{is_target-of}
use Rattle.nir_ir.specs.Items.{reads, target, values_defined}
use Rattle.nir_ir.specs.Nodes.{Nodes}
use Rattle.nir_ir.specs.Shaped.{IsShaped}
use Rattle.nir_ir.specs.Shader.{Shader}
use Rattle.nir_ir.specs.Uses.{is_value, use_count}
use Rattle.edit_laws.specs.ItemsLaws.{value_defined}
use Rattle.edit_laws.specs.KindsLaws.{defining_placed, phis-placed}
use Rattle.edit_laws.specs.NumbersLaws.{member_has}
use Rattle.edit_laws.specs.UsesLaws.{no_instr, no_use, uses_placed}
use Rattle.nir_index.specs.declared.index.Definer.{Definer}
use Rattle.nir_index.specs.declared.index.Index.{Index}
use Rattle.nir_index.specs.Index.{IsIndex, IsLonger, by_place, exchange_of, exchanged, known_instr, lengthened, newly, numbered, unknown}
use Rattle.nir_index.proofs.IndexLemmas.{past_all}
use Rattle.nir_index.proofs.PlaceLemmas.{place-kept, place-one, place-past, place-same, place-twice, slice_get-place, slice_get-replicate, slice_get-replicate_past}

-- ---- the instructions that came, one by one

abbrev change : List Instr → ℕ → Definer → Definer
change news n known = newly news (numbered n) known

abbrev with_instr : Definer → Option Instr → Definer
with_instr known instr = record { instr = instr; phi = known.phi }

change-append : (front back : List Instr) (n : ℕ) (known : Definer) → change (front ++ back) n known ≡ change front n (change back n known)
change-append front back n known =
    ap (with_instr known)
    (ap (λ found. option_or found known.instr) (find-append (is_target (numbered n)) front back)
    ∙ option_or-assoc (find (is_target (numbered n)) front) (find (is_target (numbered n)) back) known.instr)

pub exchanged-append : (front back : List Instr) (definers : List Definer) → exchanged (front ++ back) definers ≡ exchanged front (exchanged back definers)
exchanged-append front back definers =
    place-same (change (front ++ back)) (λ n known. change front n (change back n known)) (change-append front back) 0 definers
    ∙ sym (place-twice (change back) (change front) 0 definers)

pub exchanged-nil : (definers : List Definer) → exchanged [] definers ≡ definers
exchanged-nil definers = place-kept (change []) (λ n known. refl) 0 definers

-- what does not define the value changes nothing
passed : (instr : Instr) (n : ℕ) (known : Definer) → is_target (numbered n) instr ≡ false → change (instr ∷ []) n known ≡ known
passed instr n known is = ap (λ here. with_instr known (option_or (cond here (Some instr) None) known.instr)) is

elsewhere : (instr : Instr) (value : ValueId) → target instr ≡ Some value → (n : ℕ) (known : Definer) → (n ≡ value.0 → ⊥) → change (instr ∷ []) n known ≡ known
elsewhere instr value aims n known differ =
    passed instr n known
    (ap (λ found. list_any (λ (i : ValueId). nat_eq i.0 n) (option_to_list found)) aims ∙ ap (λ t. t || false) (ne_eqb value.0 n (λ same. differ (sym same))))

pub exchanged-instr : (instr : Instr) (value : ValueId) → target instr ≡ Some value → (definers : List Definer) (was : Definer) → slice_get definers value.0 ≡ Some was
    → set definers value.0 (record { instr = Some instr; phi = was.phi }) ≡ exchanged (instr ∷ []) definers
exchanged-instr instr value aims definers was there =
    ap (λ here. set definers value.0 (with_instr was (option_or (cond here (Some instr) None) was.instr))) (sym (is_target-of value instr aims))
    ∙ ap (λ d. set definers value.0 (change (instr ∷ []) value.0 d)) (sym (get_or_from_slice_get definers value.0 was was there))
    ∙ sym (place-one (change (instr ∷ [])) value.0 (elsewhere instr value aims) 0 definers value.0 was (slice_get_within definers value.0 was there) (sym (zero-add value.0)))

pub exchanged-past : (instr : Instr) (value : ValueId) → target instr ≡ Some value → (definers : List Definer) → length definers ≤ value.0 → definers ≡ exchanged (instr ∷ []) definers
exchanged-past instr value aims definers past =
    sym (place-past (change (instr ∷ [])) value.0 (elsewhere instr value aims) 0 definers (subst (λ n. n ≤ value.0) (sym (zero-add (length definers))) past))

pub exchanged-no_target : (instr : Instr) → target instr ≡ None → (definers : List Definer) → definers ≡ exchanged (instr ∷ []) definers
exchanged-no_target instr none definers =
    sym (place-kept (change (instr ∷ [])) (λ n known. passed instr n known (ap (λ found. list_any (λ (i : ValueId). nat_eq i.0 n) (option_to_list found)) none)) 0 definers)

-- a list that has no last item
pub empty_last : {A : Type 0} (list : List A) → slice_get list (length list - 1) ≡ None → list ≡ []
empty_last [] none = refl
empty_last (a ∷ list) none = absurd (none-some (get_or (a ∷ list) (length (a ∷ list) - 1) a) (sym none ∙ slice_get-get_or (a ∷ list) (length (a ∷ list) - 1) a (omega arith)))

pub on_err : {A E : Type 0} (answer : Result A E) (P : Type 0) → P → OnErr answer P
on_err (Ok a) P p = tt
on_err (Err e) P p = p

-- ---- what stands behind the end

unknown_many : {B : Type 0} (f : Definer → Option B) → f unknown ≡ None → (count n : ℕ) → option_and_then f (slice_get (replicate count unknown) n) ≡ None
unknown_many f none count n =
    ⊎_elim
    (λ within. ap (option_and_then f) (slice_get-replicate count unknown n within) ∙ none)
    (λ past. ap (option_and_then f) (slice_get-replicate_past count unknown n past))
    (cases_lt n count)

unknown_more : {B : Type 0} (f : Definer → Option B) → f unknown ≡ None → (definers : List Definer) (count n : ℕ) → option_and_then f (slice_get (definers ++ replicate count unknown) n) ≡ option_and_then f (slice_get definers n)
unknown_more f none [] count n = unknown_many f none count n
unknown_more f none (d ∷ definers) count zero = refl
unknown_more f none (d ∷ definers) count (suc n) = unknown_more f none definers count n

zeros : (count n : ℕ) → slice_index (replicate count 0) n ≡ 0
zeros zero n = refl
zeros (suc count) zero = refl
zeros (suc count) (suc n) = zeros count n

zeros_more : (counts : List ℕ) (count n : ℕ) → slice_index (counts ++ replicate count 0) n ≡ slice_index counts n
zeros_more [] count n = zeros count n
zeros_more (c ∷ counts) count zero = refl
zeros_more (c ∷ counts) count (suc n) = zeros_more counts count n

long_enough : {A : Type 0} (list : List A) (a : A) (values : ℕ) → values ≤ length (list ++ replicate (values - length list) a)
long_enough list a values =
    let both = length-append list (replicate (values - length list) a) in
    let more = length-replicate (values - length list) a in
    omega (arith, both, more)

-- an index stays one where it gets longer
pub longer : (body : Nodes) (before after : Index) → IsIndex body before → IsLonger before after → IsIndex body after
longer body before after is more = record {
  instrs = λ value. ap (λ definers. known_instr definers value) more.definers.1 ∙ unknown_more (λ d. d.instr) refl before.definers more.definers.0 value.0 ∙ is.instrs value;
  phis = λ value. ap (λ definers. option_and_then (λ (d : Definer). d.phi) (slice_get definers value.0)) more.definers.1 ∙ unknown_more (λ d. d.phi) refl before.definers more.definers.0 value.0 ∙ is.phis value;
  counts = λ value. ap (λ counts. slice_index counts value.0) more.counts ∙ is.counts value;
}

-- ---- the whole

placed_at : {A : Type 0} (f : ℕ → A → A) (list : List A) (n : ℕ) → slice_get (by_place f 0 list) n ≡ option_map (f n) (slice_get list n)
placed_at f list n = slice_get-place f 0 list n ∙ ap (λ i. option_map (f i) (slice_get list n)) (zero-add n)

phi_newly : (news : List Instr) (n : ℕ) (found : Option Definer) → option_and_then (λ d. d.phi) (option_map (change news n) found) ≡ option_and_then (λ d. d.phi) found
phi_newly news n None = refl
phi_newly news n (Some d) = refl

instr_newly : (news : List Instr) (n : ℕ) (found : Option Definer) (d : Definer) → found ≡ Some d
    → option_and_then (λ k. k.instr) (option_map (change news n) found) ≡ option_or (find (is_target (numbered n)) news) (option_and_then (λ k. k.instr) found)
instr_newly news n found d is =
    ap (λ f. option_and_then (λ (k : Definer). k.instr) (option_map (change news n) f)) is
    ∙ sym (ap (λ f. option_or (find (is_target (numbered n)) news) (option_and_then (λ (k : Definer). k.instr) f)) is)

difference : (new less was more : ℕ) → new + less ≡ was + more → was + more - less ≡ new
difference new less was more h = omega (arith, h)

pub record Found {A : Type 0} (found : Option A) : Type 0 where
  pub item : A
  pub is : found ≡ Some item

some_of : {A : Type 0} (found : Option A) → IsSome found → Found found
some_of None h = absurd (true≢false (sym h))
some_of (Some a) h = record { item = a; is = refl }

pub kept_up : (s : Shader) (index : Index) (value : ValueId) (news : List Instr) (next : ℕ) → IsShaped s → IsIndex s.body index → IsSome (instr_defining value s.body) → ArePlaced s.next_value next value news
    → IsShaped (with_news s value news next) → IsIndex (replaced value news s.body) (exchange_of index value news next)
kept_up s index value news next shaped is there placed after =
    let old = some_of (instr_defining value s.body) there in
    let low : value.0 < s.next_value = member_has (λ v. v < s.next_value) (values_defined s.body) value.0 shaped.below (value_defined value old.item s.body old.is) in
    record {
      instrs = instr_is old.item old.is low;
      phis = phi_is;
      counts = count_is old.item old.is;
    }
  where
    instr_is : (old : Instr) → instr_defining value s.body ≡ Some old → value.0 < s.next_value → (id : ValueId) → known_instr (exchanged news (lengthened next index.definers)) id ≡ instr_defining id (replaced value news s.body)
    instr_is old found low id =
        ap (option_and_then (λ (k : Definer). k.instr)) (placed_at (change news) (lengthened next index.definers) id.0)
        ∙ ⊎_elim
        (λ within.
        instr_newly news id.0 (slice_get (lengthened next index.definers) id.0) (get_or (lengthened next index.definers) id.0 unknown) (slice_get-get_or (lengthened next index.definers) id.0 unknown within)
        ∙ ap (option_or (find (is_target id) news)) (unknown_more (λ d. d.instr) refl index.definers (next - length index.definers) id.0 ∙ is.instrs id)
        ∙ sym (defining_placed s value id old news next shaped found placed low))
        (λ past.
        ap (λ f. option_and_then (λ (k : Definer). k.instr) (option_map (change news id.0) f)) (slice_get_past (lengthened next index.definers) id.0 past)
        ∙ sym (no_instr id (replaced value news s.body) (past_all (with_news s value news next) after id (let long = long_enough index.definers unknown next in omega (arith, long, past)))))
        (cases_lt id.0 (length (lengthened next index.definers)))

    phi_is : (id : ValueId) → option_and_then (λ definer. definer.phi) (slice_get (exchanged news (lengthened next index.definers)) id.0) ≡ option_map (λ phi. phi.kind) (phi_defining id (replaced value news s.body))
    phi_is id =
        ap (option_and_then (λ (k : Definer). k.phi)) (placed_at (change news) (lengthened next index.definers) id.0)
        ∙ phi_newly news id.0 (slice_get (lengthened next index.definers) id.0)
        ∙ unknown_more (λ d. d.phi) refl index.definers (next - length index.definers) id.0
        ∙ is.phis id
        ∙ sym (ap (option_map (λ phi. phi.kind)) (ap (find (is_phi_of id)) (phis-placed value news s.body)))

    count_is : (old : Instr) → instr_defining value s.body ≡ Some old → (id : ValueId) → slice_index (exchange_of index value news next).counts id.0 ≡ use_count id (replaced value news s.body)
    count_is old found id =
        let known : List ValueId = flat_map reads (option_to_list (known_instr index.definers value)) in
        let long : List ℕ = index.counts ++ replicate (next - length index.counts) 0 in
        let more : ℕ → ℕ → ℕ = λ n count. count + count_by (is_value (numbered n)) (flat_map reads news) in
        let less : ℕ → ℕ → ℕ = λ n count. count - count_by (is_value (numbered n)) known in
        sym (unwrap_or-slice_get (by_place less 0 (by_place more 0 long)) id.0 0)
        ∙ ap (λ f. unwrap_or f 0) (placed_at less (by_place more 0 long) id.0 ∙ ap (option_map (less id.0)) (placed_at more long id.0))
        ∙ ⊎_elim
        (λ within.
        ap (λ f. unwrap_or (option_map (less id.0) (option_map (more id.0) f)) 0) (slice_get-get_or long id.0 0 within)
        ∙ ap (λ n. n + count_by (is_value id) (flat_map reads news) - count_by (is_value id) known) (zeros_more index.counts (next - length index.counts) id.0 ∙ is.counts id)
        ∙ ap (λ f. use_count id s.body + count_by (is_value id) (flat_map reads news) - count_by (is_value id) (flat_map reads (option_to_list f))) (is.instrs value ∙ found)
        ∙ ap (λ list. use_count id s.body + count_by (is_value id) (flat_map reads news) - count_by (is_value id) list) (append-nil (reads old))
        ∙ difference (use_count id (replaced value news s.body)) (count_by (is_value id) (reads old)) (use_count id s.body) (count_by (is_value id) (flat_map reads news))
        (uses_placed value id old news s.body shaped.values found))
        (λ past.
        ap (λ f. unwrap_or (option_map (less id.0) (option_map (more id.0) f)) 0) (slice_get_past long id.0 past)
        ∙ sym (no_use (with_news s value news next) id after (past_all (with_news s value news next) after id (let enough = long_enough index.counts 0 next in omega (arith, enough, past)))))
        (cases_lt id.0 (length long))
