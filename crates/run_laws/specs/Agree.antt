-- Two shaders whose values agree on a set of numbers wherever both runs come to: a rule, a fold, a copy, a sweep and a phi of one value are such.
use Rattle.std.specs.Prelude.{◌≡◌, ◌⊎◌, ℕ, true, List, [], ◌∷◌, None}
use Rattle.nir_ir.specs.Definitions.{Kinds, kind_at}
use Rattle.nir_ir.specs.Items.{Item, items}
use Rattle.nir_ir.specs.Shader.{Shader}
use Rattle.nir_ir.specs.Shaped.{IsShaped}
use Rattle.nir_validate.specs.Edges.{Set}
use Rattle.nir_validate.specs.Valid.{Valid}
use Rattle.nir_validate.specs.Walk.{entry}
use Rattle.walk_laws.specs.PairsLaws.{Change, changed}
use Rattle.nir_mean.specs.Same.{InputsFit, Same}
use Rattle.run_laws.specs.Follows.{Alike, Naming}
use Rattle.run_laws.specs.Good.{Extends, TellsInstrs, TellsPhis, basis_of}
use Rattle.run_laws.specs.Known.{Basis, under}
use Rattle.run_laws.specs.Makings.{Makings}
use Rattle.run_laws.specs.Simulates.{Relation, Simulates, Tied}

-- the values agree on the numbers that are kept and that are in the set
abbrev pub Agree : Set → Relation
Agree kept set f g = (n : ℕ) → set n ≡ true → kept n ≡ true → f n ≡ g n

-- the item is one of the list
abbrev pub IsItemOf : List Item → Item → Type 0
IsItemOf [] item = ⊥
IsItemOf (first ∷ rest) item = (item ≡ first) ⊎ IsItemOf rest item

-- a shader, under these kinds and equations; of each of its parts it is known that it is one of its items
abbrev pub basis_in : Shader → Kinds → Makings → Basis
basis_in s kinds makings = basis_of s kinds makings (IsItemOf (items s.body))

-- two shaders of the same slots and buffers, the kinds of the values of both, and equations of the values of the first
pub record AreCompared (s t : Shader) (kinds : Kinds) (makings : Makings) : Type 0 where
  pub inputs : s.inputs ≡ t.inputs
  pub outputs : s.outputs ≡ t.outputs
  pub buffers : s.buffers ≡ t.buffers
  pub old_kinds : Extends kinds (kind_at s.body)
  pub new_kinds : Extends kinds (kind_at t.body)
  pub instrs : TellsInstrs kinds makings s.body
  pub phis : TellsPhis (basis_in s kinds makings) s.body

-- they mean the same where the second is the first, changed in parts that do what they did ..
abbrev pub ChangedPartsMeanSame : Type 0
ChangedPartsMeanSame =
    (s t : Shader) (c : Change) (kinds : Kinds) (makings : Makings) (kept : Set)
    → IsShaped s → IsShaped t → Valid s → AreCompared s t kinds makings → t.body ≡ changed c s.body
    → ((inputs : List (List ℕ)) (repeats : ℕ) → InputsFit s.inputs inputs → Simulates (basis_in s kinds makings) (Agree kept) inputs repeats c) → Same s t

-- .. and where they are alike part by part, or as lists where a list was changed as a whole
abbrev pub AlikePartsMeanSame : Type 0
AlikePartsMeanSame =
    (s t : Shader) (kinds : Kinds) (makings : Makings) (kept : Set) (ρ : Naming)
    → IsShaped s → IsShaped t → Valid s → AreCompared s t kinds makings → ρ None ≡ None
    → ((inputs : List (List ℕ)) (repeats : ℕ) → InputsFit s.inputs inputs
    → Alike (under (basis_in s kinds makings) inputs repeats) (Tied (basis_in s kinds makings) (Agree kept)) ρ s.body t.body (entry ∷ []) [])
    → Same s t
