-- What a variable's taking of a view leaves: it is bound to the view, and what was bound stays so.
use Rattle.std.specs.Prelude.{◌≡◌, refl, ◌<◌, ◌&&◌, ℕ, zero, suc, Bool, true, false, Option, Some, None, List, [], ◌∷◌, length, nat_eq, nat_lt, slice_get, slice_set, if◌then◌else◌}
use Rattle.std.proofs.Common.{sym, ◌∙◌, ap, subst, arith, ⊎_elim}
use Rattle.std.proofs.lemmas.Bool.{and_parts, cases_Bool, cases_lt, eqb-true}
use Rattle.std.proofs.lemmas.List.{length-set}
use Rattle.std.proofs.lemmas.Option.{none-some, same_Some}
use Rattle.std.proofs.lemmas.Slice.Eq.{bytes_eq-Decides}
use Rattle.std.specs.List.{AllByRecursion}
use Rattle.std.specs.Str.{bytes_eq}
use Rattle.nir_ir.specs.declared.ids.ValueId.{ValueId}
use Rattle.nir_ir.specs.Nodes.{Nodes}
use Rattle.nir_validate.specs.Edges.{Set}
use Rattle.rule_term.specs.Formed.{numbered}
use Rattle.nir_search.specs.declared.hit.Bind.{Bind}
use Rattle.nir_search.specs.Match.{all_bound, bind, bind_slot, same_view}
use Rattle.list_laws.specs.OptionLaws.{if_some}
use Rattle.list_laws.specs.PlaceLaws.{get_set_same}
use Rattle.rule_meaning.specs.Parts.{set_kept, set_read}
use Rattle.rule_meaning.specs.Views.{IsView}

-- the variable is bound to the view
abbrev pub IsBoundTo : List (Option Bind) → ℕ → Bind → Type 0
IsBoundTo bound var view = slice_get bound var ≡ Some (Some view)

abbrev pub IsBound : List (Option Bind) → ℕ → Type 0
IsBound bound var = (view : Bind) × IsBoundTo bound var view

-- what was bound before is bound to the same view after
abbrev pub Extends : List (Option Bind) → List (Option Bind) → Type 0
Extends before after = (var : ℕ) (view : Bind) → IsBoundTo before var view → IsBoundTo after var view

-- all variables are bound to views
abbrev pub AreViews : Nodes → Set → ℕ → List (Option Bind) → Type 0
AreViews body set count bound = (var : ℕ) (view : Bind) → IsBoundTo bound var view → IsView body set count view

same_view-same : (a b : Bind) → same_view a b ≡ true → a ≡ b
same_view-same a b h =
    let parts = and_parts (nat_eq a.value.0 b.value.0) (bytes_eq a.comps b.comps) h in
    let values : a.value ≡ b.value = ap {B = ValueId} (λ n. record { 0 = n }) (eqb-true a.value.0 b.value.0 parts.0) in
    let comps : a.comps ≡ b.comps = (bytes_eq-Decides a.comps b.comps).0 parts.1 in
    ap {B = Bind} (λ v. record { value = v; comps = a.comps }) values ∙ ap {B = Bind} (λ l. record { value = b.value; comps = l }) comps

pub record IsTaken (body : Nodes) (set : Set) (count : ℕ) (var : ℕ) (view : Bind) (before after : List (Option Bind)) : Type 0 where
  pub same : length after ≡ length before
  pub here : IsBoundTo after var view
  pub extends : Extends before after
  pub views : IsView body set count view → AreViews body set count before → AreViews body set count after

taken_slot : (body : Nodes) (set : Set) (count : ℕ) (slot : Option (Option Bind)) (var : ℕ) (view : Bind) (before after : List (Option Bind)) → slice_get before var ≡ slot → bind_slot slot var view before ≡ Some after → IsTaken body set count var view before after
taken_slot body set count None var view before after is h = absurd (none-some after h)
taken_slot body set count (Some None) var view before after is h =
    subst (IsTaken body set count var view before) (same_Some (slice_set before var (Some view)) after h) (record {
      same = length-set before var (Some view);
      here = get_set_same before var None (Some view) is;
      extends = λ k other at. set_kept before var k view other is at;
      views = λ own all k other at. ⊎_elim (λ e. subst (IsView body set count) e own) (λ old. all k other old) (set_read before var k view other at);
    })
taken_slot body set count (Some (Some old)) var view before after is h =
    let parts = if_some (same_view old view) (Some before) after h in
    subst (IsTaken body set count var view before) (same_Some before after parts.1) (record {
      same = refl;
      here = is ∙ ap (λ v. Some (Some v)) (same_view-same old view parts.0);
      extends = λ k other at. at;
      views = λ own all k other at. all k other at;
    })

pub taken : (body : Nodes) (set : Set) (count : ℕ) (var : ℕ) (view : Bind) (before after : List (Option Bind)) → bind var view before ≡ Some after → IsTaken body set count var view before after
taken body set count var view before after h = taken_slot body set count (slice_get before var) var view before after refl h

-- where each variable is bound, the substitution has a view for each
pub record AreBound (body : Nodes) (set : Set) (count : ℕ) (bound : List (Option Bind)) : Type 0 where
  pub long : length (all_bound bound) ≡ length bound
  pub each : (var : ℕ) (view : Bind) → IsBoundTo bound var view → slice_get (all_bound bound) var ≡ Some view
  pub views : AllByRecursion (IsView body set count) (all_bound bound)

pub are_bound : (body : Nodes) (set : Set) (count : ℕ) (bound : List (Option Bind)) → ((var : ℕ) → var < length bound → IsBound bound var) → AreViews body set count bound → AreBound body set count bound
are_bound body set count [] all views = record { long = refl; each = λ var view at. absurd (none-some (Some view) at); views = tt }
are_bound body set count (None ∷ bound) all views =
    let first = all 0 (omega arith) in
    absurd (none-some first.0 (same_Some None (Some first.0) first.1))
are_bound body set count (Some own ∷ bound) all views =
    let rest = are_bound body set count bound (λ var less. all (suc var) (omega (arith, less))) (λ var view at. views (suc var) view at) in
    record { long = ap suc rest.long; each = each own bound rest.each; views = (views 0 own refl, rest.views) }
  where
    each : (own : Bind) (bound : List (Option Bind)) → ((var : ℕ) (view : Bind) → IsBoundTo bound var view → slice_get (all_bound bound) var ≡ Some view) → (var : ℕ) (view : Bind) → IsBoundTo (Some own ∷ bound) var view → slice_get (own ∷ all_bound bound) var ≡ Some view
    each own bound rest zero view at = same_Some (Some own) (Some view) at
    each own bound rest (suc var) view at = rest var view at

-- the variables behind one that stood before, and behind the next
numbered_on : (next vars first : ℕ) (list : List ℕ) (test : Bool) → nat_lt first next ≡ test → numbered next vars (first ∷ list) ≡ true → (if test then numbered next vars list else nat_eq first next && numbered (suc next) vars list) ≡ true
numbered_on next vars first list test is h = sym (ap (λ b. if b then numbered next vars list else nat_eq first next && numbered (suc next) vars list) is) ∙ h

below_next : (P : ℕ → Type 0) (first next : ℕ) → first ≡ next → P first → ((var : ℕ) → var < next → P var) → (var : ℕ) → var < suc next → P var
below_next P first next same own below var less = ⊎_elim (λ l. below var l) (λ more. subst P (omega (arith, same, less, more)) own) (cases_lt var next)

-- what holds of the variables that stand in a list in which they are numbered in order holds of all
pub all_numbered : (P : ℕ → Type 0) (next vars : ℕ) (list : List ℕ) → numbered next vars list ≡ true → AllByRecursion P list → ((var : ℕ) → var < next → P var) → (var : ℕ) → var < vars → P var
all_numbered P next vars [] h all below var less = below var (subst (λ n. var < n) (sym (eqb-true next vars h)) less)
all_numbered P next vars (first ∷ list) h all below var less =
    ⊎_elim
    (λ old. all_numbered P next vars list (numbered_on next vars first list true old h) all.1 below var less)
    (λ new.
    let parts = and_parts (nat_eq first next) (numbered (suc next) vars list) (numbered_on next vars first list false new h) in
    all_numbered P (suc next) vars list parts.1 all.1 (below_next P first next (eqb-true first next parts.0) all.0 below) var less)
    (cases_Bool (nat_lt first next))
