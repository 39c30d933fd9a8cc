-- Classes of nodes as the code keeps them, and how many sizes they leave to a node.
use Rattle.std.specs.Prelude.{◌≡◌, ◌+◌, ◌<◌, ◌≤◌, ◌&&◌, ℕ, Bool, true, List}
use Rattle.std.specs.List.{slice_index_or}
use Rattle.nir_ops.specs.declared.width.Width.{Width}
use Rattle.size_laws.specs.Places.{choices, count, fits, grown, passes_at, product}
use Rattle.size_infer.specs.Meant.{meant}
use Rattle.size_infer.specs.declared.size_rule.SizeRule.{SizeRule}
use Rattle.rule_term.specs.declared.width_set.WidthSet.{WidthSet}
use Rattle.size_infer.specs.declared.classes.Classes.{Classes}
use Rattle.rule_term.specs.ReplaceLeast.{set_has, set_of}

-- the first node of a node's class: a node behind the list is its own class
abbrev pub listed : List ℕ → ℕ → ℕ
listed list node = slice_index_or list node node

-- the sizes that a class may have, by its first node
abbrev pub set_at : List WidthSet → ℕ → Width → Bool
set_at sets node = set_has (slice_index_or sets node (set_of (λ width. true)))

-- what a class has left where something more is asked
abbrev pub narrowed_at : List WidthSet → List ℕ → SizeRule → ℕ → Width → Bool
narrowed_at sets first rule node width = set_at sets node width && passes_at (listed first) node width (meant rule)

-- a size of a node fits behind those before it; a list with each that does; all lists of so many sizes
abbrev pub fits_in : Classes → List Width → ℕ → Width → Bool
fits_in classes before node width = fits (listed classes.first) (set_at classes.sets) before node width

abbrev pub grown_in : Classes → ℕ → List Width → List (List Width)
grown_in classes node list = grown (listed classes.first) (set_at classes.sets) node list

abbrev pub product_in : Classes → ℕ → List (List Width)
product_in classes nodes = product (listed classes.first) (set_at classes.sets) nodes

-- how many sizes a node can have where the sizes of those before it are chosen, and how many lists of so many sizes there are
abbrev pub options_of : Classes → ℕ → ℕ
options_of classes node = choices (listed classes.first) (set_at classes.sets) node

abbrev pub lists_of : Classes → ℕ → ℕ
lists_of classes nodes = count (listed classes.first) (set_at classes.sets) nodes

-- each of so many nodes can have a size
abbrev pub EachHas : Classes → ℕ → Type 0
EachHas classes nodes = (node : ℕ) → node < nodes → 1 ≤ options_of classes node

-- behind a place none of so many nodes can have two
abbrev pub NoneHasTwo : Classes → ℕ → ℕ → Type 0
NoneHasTwo classes searched nodes = (node : ℕ) → node < nodes → options_of classes (searched + node) ≤ 1

-- a node can have no size
pub record HasNone (classes : Classes) (nodes node : ℕ) : Type 0 where
  pub inside : node < nodes
  pub none : options_of classes node ≡ 0

-- behind a place the first node that can have two
pub record HasTwoFirst (classes : Classes) (searched nodes node : ℕ) : Type 0 where
  pub inside : node < nodes
  pub two : 2 ≤ options_of classes (searched + node)
  pub before : NoneHasTwo classes searched node

-- there are more lists than so many, already of the sizes of some of the nodes
pub record HasMore (classes : Classes) (nodes most : ℕ) : Type 0 where
  pub node : ℕ
  pub inside : node ≤ nodes
  pub more : most < lists_of classes node
