-- What the variables of a rule have where a match binds each to a view: the component of its value that stands in a place of the view.
use Rattle.std.specs.Prelude.{◌≡◌, ℕ, List, [], ◌∷◌, map, slice_index}
use Rattle.std.proofs.Common.{ap}
use Rattle.nir_search.specs.declared.hit.Bind.{Bind}
use Rattle.nir_mean.specs.Values.{Values}

-- the component that stands in a place of a view
abbrev pub at_place : Values → ℕ → Bind → ℕ
at_place values place bind = slice_index (values bind.value.0) (slice_index bind.comps place)

-- that of each variable, by its number
abbrev pub env : List Bind → Values → ℕ → List ℕ
env subst values place = map (at_place values place) subst

-- a variable that is bound to components 1 and 0 of a value has the one, and in the next place the other
worked : (values : Values) → values 3 ≡ 5 ∷ 7 ∷ [] → (env (record { value = record { 0 = 3 }; comps = 1 ∷ 0 ∷ [] } ∷ []) values 0 ≡ 7 ∷ []) × (env (record { value = record { 0 = 3 }; comps = 1 ∷ 0 ∷ [] } ∷ []) values 1 ≡ 5 ∷ [])
worked values are = (ap (λ list. slice_index list 1 ∷ []) are, ap (λ list. slice_index list 0 ∷ []) are)
