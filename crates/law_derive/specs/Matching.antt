-- How a side of a law is matched with a term: each letter takes a part, the same at each of its places.
use Rattle.std.specs.Prelude.{ℕ, List, [], ◌∷◌, ◌++◌, Option, Some, None, nat_eq, if◌then◌else◌}
use Rattle.std.specs.List.{find}
use Rattle.std.specs.Option.{option_map, unwrap_or}
use Rattle.op_eval.specs.Calls.{same_width}
use Rattle.law_derive.specs.declared.node.Kind.{Kind}
use Rattle.law_derive.specs.declared.node.Kind.TheVariants.{App, Var, Lit}
use Rattle.law_derive.specs.declared.node.Node.{Node}
use Rattle.law_derive.specs.Nodes.{first_term, behind_first, same_node, same_nodes}

-- the letters that stand for something, each with its term
abbrev pub Filling : Type 0
Filling = List (ℕ × List Node)

abbrev pub found : ℕ → Filling → Option (List Node)
found letter filling = option_map (λ one. one.1) (find (λ one. nat_eq one.0 letter) filling)

-- a letter takes a term, or has it already
abbrev pub taken : ℕ → List Node → Filling → Option (List Node) → Option Filling
taken letter term filling None = Some ((letter, term) ∷ filling)
taken letter term filling (Some other) = if same_nodes other term then Some filling else None

abbrev pub and_then : Option Filling → (Filling → Option Filling) → Option Filling
and_then None others = None
and_then (Some filling) others = others filling

-- the first node of a side, and then the others
abbrev pub match_kind : Kind → Node → Node → List Node → Filling → (List Node → Filling → Option Filling) → Option Filling
match_kind (Var letter) part node nodes filling others =
    if same_width part.width node.width
    then and_then (taken letter (first_term (node ∷ nodes)) filling (found letter filling)) (others (behind_first (node ∷ nodes)))
    else None
match_kind (App op) part node nodes filling others = if same_node part node then others nodes filling else None
match_kind (Lit word) part node nodes filling others = if same_node part node then others nodes filling else None

abbrev pub match_first : Node → List Node → Filling → (List Node → Filling → Option Filling) → Option Filling
match_first part [] filling others = None
match_first part (node ∷ nodes) filling others = match_kind part.kind part node nodes filling others

-- the letters of a side at what they stand for, beside those of a filling, where the side matches
abbrev pub match_side : List Node → List Node → Filling → Option Filling
match_side [] nodes filling = Some filling
match_side (part ∷ parts) nodes filling = match_first part nodes filling (match_side parts)

-- a side with the terms for its letters
abbrev pub filled_part : Filling → Kind → Node → List Node
filled_part filling (Var letter) part = unwrap_or (found letter filling) []
filled_part filling (App op) part = part ∷ []
filled_part filling (Lit word) part = part ∷ []

abbrev pub filled : Filling → List Node → List Node
filled filling [] = []
filled filling (part ∷ parts) = filled_part filling part.kind part ++ filled filling parts
