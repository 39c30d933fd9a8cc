-- The uses of a value, as the use lists of an SSA form name them: each by what uses the value, and the number of the source.
use Rattle.std.specs.Prelude.{◌≡◌, ◌≢◌, ℕ, List, [], ◌∷◌, ◌++◌, Some, length, slice_get}
use Rattle.std.specs.List.{AllByRecursion, AllPairs}
use Rattle.nir_ir.specs.declared.ids.ValueId.{ValueId}
use Rattle.nir_ir.specs.declared.journal.Use.{Use}
use Rattle.nir_ir.specs.declared.journal.Use.TheVariants.{OfValue, OfEffect, OfIf}
use Rattle.nir_ir.specs.Items.{Item, items, defines, effects_of, ifs_of, uses}
use Rattle.nir_ir.specs.Nodes.{Nodes}
use Rattle.nir_ir.specs.Uses.{use_count}

-- the item is what a use names: the phi or instruction that defines the value, the effect, or the if
abbrev pub IsNamed : Use → Item → Type 0
IsNamed (OfValue id source) item = defines item ≡ id ∷ []
IsNamed (OfEffect id source) item = effects_of item ≡ id ∷ []
IsNamed (OfIf id) item = ifs_of item ≡ id ∷ []

-- the number of the source; an if has one, its condition
abbrev pub source_number : Use → ℕ
source_number (OfValue id source) = source
source_number (OfEffect id source) = source
source_number (OfIf id) = 0

-- what the use names stands in the tree, and its source of that number is the value
pub record IsUseOf (value : ValueId) (body : Nodes) (named : Use) : Type 0 where
  pub before : List Item
  pub item : Item
  pub behind : List Item
  pub stands : items body ≡ before ++ item ∷ behind
  pub is : IsNamed named item
  pub source : slice_get (uses item) (source_number named) ≡ Some value

-- the uses of the value, each once
pub record AreUsers (value : ValueId) (body : Nodes) (found : List Use) : Type 0 where
  pub all : AllByRecursion (IsUseOf value body) found
  pub once : AllPairs (λ a b. a ≢ b) found
  pub count : length found ≡ use_count value body
