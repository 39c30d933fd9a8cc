-- What the terms of a filling are.
use Rattle.std.specs.Prelude.{◌≡◌, ℕ, List, Option, Some, None}
use Rattle.std.specs.List.{AllByRecursion}
use Rattle.law_derive.specs.declared.node.Node.{Node}
use Rattle.law_derive.specs.Derivations.{Setting}
use Rattle.law_derive.specs.Matching.{Filling, found}
use Rattle.law_derive.specs.StandingLaws.{NodeStands}

-- each node of what a letter stands for is a variable of the rule at its size, a word of its size or an opcode
abbrev pub FillingStands : Setting → Filling → Type 0
FillingStands at filling = (letter : ℕ) (term : List Node) → found letter filling ≡ Some term → AllByRecursion (NodeStands at) term

abbrev pub SomeStands : Setting → Option (List Node) → Type 0
SomeStands at None = Unit {0}
SomeStands at (Some term) = AllByRecursion (NodeStands at) term
