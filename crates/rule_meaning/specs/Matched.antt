-- What a match of a rule says: the variables are bound to views of values in the set, what they have there are words of their sizes that meet the conditions, and the search side has the value at which the rule matches.
use Rattle.std.specs.Prelude.{◌≡◌, refl, ◌<◌, ◌≤◌, ◌+◌, ℕ, zero, suc, true, Option, Some, None, List, [], ◌∷◌, length, replicate, slice_get, slice_index, drop}
use Rattle.std.proofs.Common.{sym, ◌∙◌, ap, subst, arith}
use Rattle.std.proofs.lemmas.List.{length-replicate}
use Rattle.std.proofs.lemmas.List.FromFn.{get_or-range_with_len, length-range_with_len}
use Rattle.std.proofs.lemmas.Option.{get_or_from_slice_get, none-some, same_Some, slice_get-map}
use Rattle.std.specs.List.{AllByRecursion, list_all, range_with_len}
use Rattle.std.specs.Option.{option_map, option_map_or}
use Rattle.nir_ops.specs.declared.width.Width.{Width}
use Rattle.nir_ops.specs.declared.width.Width.TheVariants.{W1}
use Rattle.std.proofs.lemmas.Grind.{flat_map-append}
use Rattle.nir_ir.specs.declared.ids.ValueId.{ValueId}
use Rattle.nir_ir.specs.declared.kind.Kind.{Kind}
use Rattle.nir_ir.specs.Definitions.{kind_at, width_at}
use Rattle.nir_ir.specs.Nodes.{Nodes}
use Rattle.nir_ir.specs.Shaped.{IsShaped}
use Rattle.nir_ir.specs.Shader.{Shader}
use Rattle.rule_term.specs.Formed.{IsFormed}
use Rattle.rule_term.specs.Holds.{is_met, is_word, values_of}
use Rattle.rule_term.specs.Pieces.{pieces, var_of, vars_of}
use Rattle.rule_term.specs.Rule.{Rule}
use Rattle.rule_term.specs.Terms.{Terms, Nil, VarThen, LitThen, AppThen}
use Rattle.rule_term.specs.Typings.{Occurrence, occurrences, roots, size_of}
use Rattle.nir_search.specs.declared.hit.Bind.{Bind}
use Rattle.nir_search.specs.Match.{all_bound, is_typed, match_of, matches, met, root_view}
use Rattle.nir_mean.specs.Known.{IsKnown}
use Rattle.nir_mean.specs.Points.{Closed}
use Rattle.nir_validate.specs.Edges.{Set}
use Rattle.nir_mean.specs.Values.{Values}
use Rattle.rule_meaning.specs.Bound.{AreBound, IsBound, IsBoundTo, all_numbered, are_bound}
use Rattle.rule_meaning.specs.Env.{at_place, env}
use Rattle.rule_meaning.specs.Fit.{IsFit, component_count}
use Rattle.list_laws.specs.AllLaws.{all_append, all_back, all_front}
use Rattle.list_laws.specs.OptionLaws.{if_some}
use Rattle.rule_meaning.specs.Views.{IsView}
use Rattle.nir_search.specs.Put.{bound_to}
use Rattle.rule_meaning.specs.Walked.{Agrees, HasSize, IsWalked, Says, walked}

-- a variant of a rule matches at a value of a set that holds, with each of its values, the sources of what opcodes write
pub record IsMatch (s : Shader) (rule : Rule) (variant : ℕ) (value : ValueId) (kind : Kind) (binds : List Bind) (set : Set) : Type 0 where
  pub shaped : IsShaped s
  pub formed : IsFormed rule
  pub kind_is : kind_at s.body value ≡ Some kind
  pub found : match_of rule variant s.body value ≡ Some binds
  pub closed : Closed s.body set
  pub fit : IsFit s.body set
  pub inside : set value.0 ≡ true

pub some_map : {A B : Type 0} (f : A → B) (o : Option A) (b : B) → option_map f o ≡ Some b → (a : A) × (o ≡ Some a) × (f a ≡ b)
some_map f None b e = absurd (none-some b e)
some_map f (Some a) b e = (a, refl, same_Some (f a) b e)

-- nothing is bound at the start
none_bound : (n var : ℕ) (view : Bind) → IsBoundTo (replicate n None) var view → ⊥
none_bound zero var view at = none-some (Some view) at
none_bound (suc n) zero view at = none-some view (same_Some None (Some view) at)
none_bound (suc n) (suc var) view at = none_bound n var view at

all_range : (a n m : ℕ) → a + n ≤ m → AllByRecursion (λ c. c < m) (range_with_len a n)
all_range a zero m less = tt
all_range a (suc n) m less = (omega (arith, less), all_range (a + 1) n m (omega (arith, less)))

pub root_is_view : (body : Nodes) (set : Set) (value : ValueId) → set value.0 ≡ true → IsView body set (component_count body value) (root_view body value)
root_is_view body set value inside = record {
  inside = inside;
  places = length-range_with_len 0 (component_count body value);
  comps = all_range 0 (component_count body value) (component_count body value) (omega arith);
}

-- the bit sizes that the match meets
abbrev pub sizes_met : Shader → Rule → ℕ → ValueId → List Width
sizes_met s rule variant value = met s.body rule.search variant (root_view s.body value ∷ [])

-- the walk that a match is
pub record IsWalk (s : Shader) (rule : Rule) (variant : ℕ) (value : ValueId) (binds : List Bind) : Type 0 where
  pub bound : List (Option Bind)
  pub matched : matches s.body rule.search variant (root_view s.body value ∷ []) (replicate rule.vars None) ≡ Some bound
  pub binds_are : all_bound bound ≡ binds
  pub typed : is_typed rule (sizes_met s rule variant value) ≡ true

pub walk_of : (s : Shader) (rule : Rule) (variant : ℕ) (value : ValueId) (binds : List Bind) → match_of rule variant s.body value ≡ Some binds → IsWalk s rule variant value binds
unfolding match_of
walk_of s rule variant value binds found =
    let views = root_view s.body value ∷ [] in
    let parts = if_some (is_typed rule (met s.body rule.search variant views)) (option_map all_bound (matches s.body rule.search variant views (replicate rule.vars None))) binds found in
    let bound = some_map all_bound (matches s.body rule.search variant views (replicate rule.vars None)) binds parts.1 in
    record { bound = bound.0; matched = bound.1; binds_are = bound.2; typed = parts.0 }

-- the view of a variable among those of all
bound_view : (binds : List Bind) (var : ℕ) (view : Bind) → slice_get binds var ≡ Some view → bound_to binds var ≡ view
bound_view [] var view at = absurd (none-some view at)
bound_view (first ∷ binds) zero view at = same_Some first view at
bound_view (first ∷ binds) (suc var) view at = bound_view binds var view at

module _ (s : Shader) (rule : Rule) (variant : ℕ) (value : ValueId) (kind : Kind) (binds : List Bind) (set : Set) (h : IsMatch s rule variant value kind binds set) where
  walk : IsWalk s rule variant value binds
  walk = walk_of s rule variant value binds h.found

  went : IsWalked s.body set (component_count s.body value) rule.search (sizes_met s rule variant value) (root_view s.body value ∷ []) (replicate rule.vars None) walk.bound
  went =
      walked s h.shaped set h.closed h.fit (component_count s.body value) rule.search variant (root_view s.body value ∷ []) (replicate rule.vars None) walk.bound
      h.formed.search (sym h.formed.one_search) (root_is_view s.body set value h.inside, tt) walk.matched

  each_bound : AreBound s.body set (component_count s.body value) walk.bound
  each_bound =
      are_bound s.body set (component_count s.body value) walk.bound
      (λ var less. all_numbered (IsBound walk.bound) 0 rule.vars (vars_of rule.search) h.formed.numbered went.named (λ k l. absurd (omega (arith, l))) var (subst (λ n. var < n) (went.same ∙ length-replicate rule.vars None) less))
      (went.views_kept (λ var view at. absurd (none_bound rule.vars var view at)))

  pub binds_count : length binds ≡ rule.vars
  binds_count = ap length (sym walk.binds_are) ∙ each_bound.long ∙ went.same ∙ length-replicate rule.vars None

  -- each variable is bound to a view
  pub binds_views : AllByRecursion (IsView s.body set (component_count s.body value)) binds
  binds_views = subst (AllByRecursion (IsView s.body set (component_count s.body value))) walk.binds_are each_bound.views

  pub count_is : component_count s.body value ≡ kind.count
  count_is = ap (λ o. option_map_or (λ k. k.count) o 0) h.kind_is

  is_bound : (var : ℕ) (view : Bind) → IsBoundTo walk.bound var view → slice_get binds var ≡ Some view
  is_bound var view at = ap (λ l. slice_get l var) (sym walk.binds_are) ∙ each_bound.each var view at

  agrees : (values : Values) (place : ℕ) → Agrees values place walk.bound (env binds values place)
  agrees values place var view at =
      get_or_from_slice_get (env binds values place) var (at_place values place view) 0
      (slice_get-map (at_place values place) binds var ∙ ap (option_map (at_place values place)) (is_bound var view at))

  said : (values : Values) → IsKnown s.body set values → (place : ℕ) → place < kind.count → Says values place rule.search (sizes_met s rule variant value) (root_view s.body value ∷ []) (env binds values place)
  said values known place within = went.says values known (env binds values place) place (subst (λ n. place < n) (sym count_is) within) (agrees values place)

  -- in each place the variables have words of their sizes that meet the conditions
  pub words_met : (values : Values) → IsKnown s.body set values → (place : ℕ) → place < kind.count
      → (list_all (is_word (env binds values place)) (occurrences rule.search (sizes_met s rule variant value)) ≡ true) × (list_all (is_met (env binds values place)) (occurrences rule.search (sizes_met s rule variant value)) ≡ true)
  words_met values known place within = ((said values known place within).are_words, (said values known place within).are_met)

  -- and the search side has the component that stands there
  pub value_met : (values : Values) → IsKnown s.body set values → (place : ℕ) → place < kind.count → values_of rule.search (sizes_met s rule variant value) (env binds values place) ≡ slice_index (values value.0) place ∷ []
  value_met values known place within =
      (said values known place within).equal
      ∙ ap (λ c. slice_index (values value.0) c ∷ []) (get_or-range_with_len 0 (component_count s.body value) place 0 (subst (λ n. place < n) (sym count_is) within) ∙ omega arith)

  -- the size of the root is that of the value
  pub root_met : roots rule.search (sizes_met s rule variant value) ≡ kind.width ∷ []
  root_met = went.roots_are ∙ ap (λ o. option_map_or (λ (k : Kind). k.width) o W1 ∷ []) h.kind_is

  -- and each occurrence of a variable has the size of the value whose view the variable takes
  pub sizes_bound : AllByRecursion (λ o. width_at s.body (bound_to binds o.var).value ≡ o.width) (occurrences rule.search (sizes_met s rule variant value))
  sizes_bound = each (occurrences rule.search (sizes_met s rule variant value)) (bound_all rule.search (sizes_met s rule variant value) went.named) went.sized where
    bound_all : (terms : Terms) (sizes : List Width) → AllByRecursion (IsBound walk.bound) (vars_of terms) → AllByRecursion (λ (o : Occurrence). IsBound walk.bound o.var) (occurrences terms sizes)
    bound_all Nil sizes named = tt
    bound_all (VarThen var constant size cond rest) sizes named = (named.0, bound_all rest (drop 1 sizes) named.1)
    bound_all (LitThen number boolean rest) sizes named = bound_all rest (drop 1 sizes) named
    bound_all (AppThen op size once args rest) sizes named =
        let parts = subst (AllByRecursion (IsBound walk.bound)) (flat_map-append var_of (pieces args) (pieces rest)) named in
        all_append (λ (o : Occurrence). IsBound walk.bound o.var) (occurrences args (drop 1 sizes)) (occurrences rest (drop (suc (size_of args)) sizes))
        (bound_all args (drop 1 sizes) (all_front (IsBound walk.bound) (vars_of args) (vars_of rest) parts))
        (bound_all rest (drop (suc (size_of args)) sizes) (all_back (IsBound walk.bound) (vars_of args) (vars_of rest) parts))

    each : (list : List Occurrence) → AllByRecursion (λ (o : Occurrence). IsBound walk.bound o.var) list → AllByRecursion (HasSize s.body walk.bound) list → AllByRecursion (λ (o : Occurrence). width_at s.body (bound_to binds o.var).value ≡ o.width) list
    each [] named all = tt
    each (o ∷ list) named all = (
      ap (λ v. width_at s.body v.value) (bound_view binds o.var named.0.0 (is_bound o.var named.0.0 named.0.1)) ∙ all.0 named.0.0 named.0.1,
      each list named.1 all.1,
    )
