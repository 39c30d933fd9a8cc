-- Valid shaders, and the first rule that a shader breaks: two rounds, in each the least item, and for one item the least rule.
use Rattle.std.specs.Prelude.{◌≡◌, ℕ, suc, Bool, false, ◌||◌, ◌&&◌, cond, nat_eq, nat_lt, List, [], ◌∷◌, ◌++◌, map, Option, Some, None}
use Rattle.std.specs.Option.{option_or}
use Rattle.nir_ir.specs.Definitions.{kind_at}
use Rattle.nir_ir.specs.Shader.{Shader}
pub use Rattle.nir_validate.specs.declared.fault.Fault.{Fault}
use Rattle.nir_validate.specs.Walk.{Visit, visits_of}
use Rattle.nir_validate.specs.Rules.{Kinds, Spot, spots, kinds_fit, is_declared, all_misplaced, may_stand, swizzles_fit, condition_fits, may_be_left, sources_match, are_uses_defined}

-- the fault where a rule is not kept
abbrev pub unless : Bool → ℕ → ℕ → List Fault
unless kept rule item = cond kept [] (record { rule = rule; item = item } ∷ [])

-- items in text order, numbered from there on
abbrev pub at_each : {A : Type 0} → (A → ℕ → List Fault) → ℕ → List A → List Fault
at_each faults at [] = []
at_each faults at (item ∷ items) = faults item at ++ at_each faults (suc at) items

-- what an item breaks in the first round, but for the order of nodes, and in the second
abbrev pub spot_faults : Kinds → Shader → Spot → ℕ → List Fault
spot_faults kinds s spot at =
    unless (kinds_fit kinds spot.item) 1 at
    ++ unless (is_declared kinds s spot.item) 2 at
    ++ unless (may_stand spot) 4 at
    ++ unless (swizzles_fit kinds spot.item) 8 at
    ++ unless (condition_fits kinds spot.item) 9 at

abbrev pub visit_faults : Visit → ℕ → List Fault
visit_faults visit at = unless (may_be_left visit) 5 at ++ unless (sources_match visit) 6 at ++ unless (are_uses_defined visit) 7 at

abbrev pub first_round : Shader → List Fault
first_round s = map (λ item. record { rule = 3; item = item }) (all_misplaced s.body) ++ at_each (spot_faults (kind_at s.body) s) 0 (spots false s.body)

abbrev pub second_round : Shader → List Fault
second_round s = at_each visit_faults 0 (visits_of s.body)

-- a fault comes before another at a lesser item, and at one item where its rule is less
abbrev pub is_before : Fault → Fault → Bool
is_before a b = nat_lt a.item b.item || (nat_eq a.item b.item && nat_lt a.rule b.rule)

abbrev pub earlier : Fault → Option Fault → Fault
earlier fault None = fault
earlier fault (Some other) = cond (is_before other fault) other fault

-- the least of faults
abbrev pub least : List Fault → Option Fault
least [] = None
least (fault ∷ faults) = Some (earlier fault (least faults))

-- the first rule that is broken, and the item that breaks it
unfoldable pub first_invalid : Shader → Option Fault
first_invalid s = option_or (least (first_round s)) (least (second_round s))

-- none of the rules is broken
pub record Valid (s : Shader) : Type 0 where
  pub parts : first_round s ≡ []
  pub paths : second_round s ≡ []
