-- The sizes of an expression: those of its root, and whether the root fixes those of all other nodes (bit sizes in rules as in Mesa's nir_algebraic.py).
use Rattle.std.specs.Prelude.{◌≡◌, ℕ, Bool, true, false, not, ◌&&◌, ◌||◌, Option, Some, None, List, [], ◌∷◌, is_none, is_some, if◌then◌else◌}
use Rattle.std.specs.List.{find, list_all}
use Rattle.std.specs.Option.{option_map}
use Rattle.nir_ops.specs.declared.op.Op.{Op}
use Rattle.nir_ops.specs.declared.row.OpInput.{OpInput}
use Rattle.nir_ops.specs.declared.width.Width.{Width}
use Rattle.nir_ops.specs.Opcodes.{op_allows, op_info}
use Rattle.op_eval.specs.Calls.{same_width, source_widths}
use Rattle.rule_term.specs.ReplaceLeast.{can, every_width, knows, least}
use Rattle.rule_term.specs.Terms.{Terms, Nil, VarThen, LitThen, AppThen}
use Rattle.law_derive.specs.Derivations.{Setting, has_size_of, is_expr, is_size, size_of_var}
use Rattle.law_derive.specs.declared.node.Node.{Node}
use Rattle.law_derive.specs.Nodes.{nodes_of}

-- whether a size can be that of a variable
abbrev pub fit_of : Setting → ℕ → Width → Bool
fit_of at var width = has_size_of (size_of_var at var) width

-- the sizes that are known are those of the rule's variables
abbrev pub KnowsSizes : Setting → List (Option Width) → Type 0
KnowsSizes at known = (var : ℕ) (width : Width) → knows known var width ≡ fit_of at var width

-- ---- tests that one size passes

-- no other size passes
abbrev pub no_other : (Width → Bool) → Width → Bool
no_other test width = list_all (λ other. not (test other) || same_width other width) every_width

abbrev pub few_from : (Width → Bool) → Option Width → Bool
few_from test None = true
few_from test (Some width) = no_other test width

-- at most one passes
abbrev pub at_most_one : (Width → Bool) → Bool
at_most_one test = few_from test (find test every_width)

abbrev pub sole_from : (Width → Bool) → Option Width → Option Width
sole_from test None = None
sole_from test (Some width) = if no_other test width then Some width else None

-- the only one that passes
abbrev pub sole : (Width → Bool) → Option Width
sole test = sole_from test (find test every_width)

-- ---- settled terms

abbrev pub first_is_unsized : List OpInput → Bool
first_is_unsized [] = false
first_is_unsized (input ∷ rest) = is_none input.kind.size

-- an opcode whose result has a size of its own, and whose sources have another
unfoldable pub is_free : Op → Bool
is_free op = is_some (op_info op).out.size && first_is_unsized (op_info op).inputs

-- the opcode works at an unsized size, and its sources can have their sizes then
abbrev pub works_at : (ℕ → Width → Bool) → Op → Terms → Width → Bool
works_at fit op args free = op_allows op free && can fit args (source_widths op free)

abbrev pub is_settled : (ℕ → Width → Bool) → Op → Terms → Bool
is_settled fit op args = not (is_free op) || at_most_one (works_at fit op args)

-- under each opcode whose result does not tell the size of its sources, they have at most one
unfoldable pub settled : (ℕ → Width → Bool) → Terms → Bool
settled fit Nil = true
settled fit (VarThen var constant size cond rest) = settled fit rest
settled fit (LitThen value boolean rest) = settled fit rest
settled fit (AppThen op size once args rest) = is_settled fit op args && settled fit args && settled fit rest

-- ---- the sizes of an expression

-- the root can have this size
abbrev pub root_may : (ℕ → Width → Bool) → Option Width → Terms → Width → Bool
root_may fit size terms width = is_size size width && can fit terms (width ∷ [])

-- the size of the root, where all nodes of an expression have one size each
unfoldable pub root_of : (ℕ → Width → Bool) → Option Width → Terms → Option Width
root_of fit size terms = if settled fit terms then sole (root_may fit size terms) else None

-- the nodes of an expression, from its root
unfoldable pub nodes_from : (ℕ → Width → Bool) → Option Width → Terms → Option (List Node)
nodes_from fit size terms =
    if is_expr terms then option_map (λ width. nodes_of terms (least fit terms (width ∷ []))) (root_of fit size terms) else None
