-- The typings of a rule: which bit sizes its nodes can have. Opcodes ask for sizes of their sources and their result, variables have one size each, and both sides end in one size.
use Rattle.std.specs.Prelude.{◌+◌, ◌-◌, ◌^◌, ℕ, zero, suc, ℤ, pos, negsuc, Bool, true, false, not, ◌&&◌, ◌||◌, Option, Some, None, List, [], ◌∷◌, ◌++◌, length, map, filter, nat_eq, nat_lt}
use Rattle.std.specs.List.{list_all, flat_map, slice_index_or}
use Rattle.std.proofs.Common.{take, drop}
use Rattle.nir_ops.specs.declared.width.Width.{Width}
use Rattle.nir_ops.specs.declared.width.Width.TheVariants.{W1, W8, W16, W32, W64}
use Rattle.nir_ops.specs.Width.{width_bits}
use Rattle.op_eval.specs.Calls.{same_width, sizes_fit}
use Rattle.rule_term.specs.declared.cond.Cond.{Cond}
use Rattle.rule_term.specs.Terms.{Terms, Nil, VarThen, LitThen, AppThen}
use Rattle.rule_term.specs.Rule.{Rule}

-- how many nodes terms have
abbrev pub size_of : Terms → ℕ
size_of Nil = 0
size_of (VarThen var constant size cond rest) = suc (size_of rest)
size_of (LitThen value boolean rest) = suc (size_of rest)
size_of (AppThen op size once args rest) = suc (size_of args + size_of rest)

-- the size of the first node
abbrev pub first_of : List Width → Width
first_of widths = slice_index_or widths 0 W1

-- the sizes of the terms that stand one after another, where their nodes have these sizes in preorder
abbrev pub roots : Terms → List Width → List Width
roots Nil widths = []
roots (VarThen var constant size cond rest) widths = first_of widths ∷ roots rest (drop 1 widths)
roots (LitThen value boolean rest) widths = first_of widths ∷ roots rest (drop 1 widths)
roots (AppThen op size once args rest) widths = first_of widths ∷ roots rest (drop (suc (size_of args)) widths)

-- a size that is written is that of the node
abbrev pub has_size : Option Width → Width → Bool
has_size None width = true
has_size (Some size) width = same_width size width

-- a number from -2^(w-1) to 2^w - 1, or a truth value of one bit
abbrev pub literal_fits : ℤ → Bool → Width → Bool
literal_fits value true width = nat_eq (width_bits width) 1
literal_fits (pos n) false width = nat_lt n (2 ^ width_bits width)
literal_fits (negsuc n) false width = nat_lt n (2 ^ (width_bits width - 1))

-- what is asked of the sizes of each node by itself
abbrev pub obeys : Terms → List Width → Bool
obeys Nil widths = true
obeys (VarThen var constant size cond rest) widths = has_size size (first_of widths) && obeys rest (drop 1 widths)
obeys (LitThen value boolean rest) widths = literal_fits value boolean (first_of widths) && obeys rest (drop 1 widths)
obeys (AppThen op size once args rest) widths =
    has_size size (first_of widths)
    && sizes_fit op (first_of widths) (roots args (drop 1 widths))
    && obeys args (drop 1 widths)
    && obeys rest (drop (suc (size_of args)) widths)

-- an occurrence of a variable, its size, and the condition that is written there
pub record Occurrence : Type 0 where
  pub var : ℕ
  pub width : Width
  pub cond : Option Cond

abbrev pub occurrences : Terms → List Width → List Occurrence
occurrences Nil widths = []
occurrences (VarThen var constant size cond rest) widths = record { var = var; width = first_of widths; cond = cond } ∷ occurrences rest (drop 1 widths)
occurrences (LitThen value boolean rest) widths = occurrences rest (drop 1 widths)
occurrences (AppThen op size once args rest) widths = occurrences args (drop 1 widths) ++ occurrences rest (drop (suc (size_of args)) widths)

-- occurrences of one variable have one size
abbrev pub alike : Occurrence → Occurrence → Bool
alike a b = not (nat_eq a.var b.var) || same_width a.width b.width

abbrev pub agree : List Occurrence → Bool
agree list = list_all (λ a. list_all (alike a) list) list

-- the part of a typing for the search side, and that for the replacement
abbrev pub search_part : Rule → List Width → List Width
search_part rule widths = take (size_of rule.search) widths

abbrev pub replace_part : Rule → List Width → List Width
replace_part rule widths = drop (size_of rule.search) widths

-- these are sizes for the nodes of the rule, search side first
unfoldable pub is_typing : Rule → List Width → Bool
is_typing rule widths =
    nat_eq (length widths) (size_of rule.search + size_of rule.replace)
    && obeys rule.search (search_part rule widths)
    && obeys rule.replace (replace_part rule widths)
    && same_width (first_of (search_part rule widths)) (first_of (replace_part rule widths))
    && agree (occurrences rule.search (search_part rule widths) ++ occurrences rule.replace (replace_part rule widths))

-- all lists of so many sizes, in lexicographic order
unfoldable pub width_lists : ℕ → List (List Width)
width_lists zero = [] ∷ []
width_lists (suc n) = flat_map (λ width. map (λ list. width ∷ list) (width_lists n)) (W1 ∷ W8 ∷ W16 ∷ W32 ∷ W64 ∷ [])

-- the typings of a rule, in lexicographic order
unfoldable pub typings : Rule → List (List Width)
typings rule = filter (is_typing rule) (width_lists (size_of rule.search + size_of rule.replace))
