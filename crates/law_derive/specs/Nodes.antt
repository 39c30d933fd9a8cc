-- Terms at a typing as lists of nodes in preorder: their values, from right to left over a stack (Polish notation).
use denote.Enum.Bare.{sameb}
use Rattle.std.specs.Prelude.{◌+◌, ℕ, zero, suc, Bool, false, ◌&&◌, List, [], ◌∷◌, ◌++◌, take, drop, length, Option, Some, None, nat_eq, nat_lt, if◌then◌else◌}
use Rattle.std.specs.Cmp.Lexicographic.{pointwise}
use Rattle.std.specs.List.{slice_index_or}
use Rattle.std.specs.Option.{option_map}
use Rattle.nir_ops.specs.contracts.op.Op as op_type
use Rattle.nir_ops.specs.declared.op.Op.{Op}
use Rattle.nir_ops.specs.declared.width.Width.{Width}
use Rattle.nir_ops.specs.Opcodes.{op_info}
use Rattle.nir_ops.specs.Width.{width_bits}
use Rattle.op_eval.specs.Calls.{same_width, unsized_width}
use Rattle.op_eval.specs.Meaning.{op_mean}
use Rattle.op_eval.specs.Word.{residue}
use Rattle.rule_term.specs.Terms.{Terms, Nil, VarThen, LitThen, AppThen}
use Rattle.rule_term.specs.Typings.{first_of, size_of}
use Rattle.law_derive.specs.declared.node.Kind.{Kind}
use Rattle.law_derive.specs.declared.node.Kind.TheVariants.{App, Var, Lit}
use Rattle.law_derive.specs.declared.node.Node.{Node}

-- how many sources an opcode has
abbrev pub arity : Op → ℕ
arity op = length (op_info op).inputs

-- a term begins behind which so many others stand that are its sources
abbrev pub with_root : Width → Kind → List Width → List Width
with_root width (App op) behind = width ∷ drop (arity op) behind
with_root width (Var var) behind = width ∷ behind
with_root width (Lit word) behind = width ∷ behind

-- the sizes of the terms that stand one after another
abbrev pub roots : List Node → List Width
roots [] = []
roots (node ∷ rest) = with_root node.width node.kind (roots rest)

abbrev pub with_value : Width → Kind → List Width → List ℕ → List ℕ → List ℕ
with_value width (App op) sizes words behind =
    op_mean op (width_bits (unsized_width op width (take (arity op) sizes))) (width_bits width) (take (arity op) behind) ∷ drop (arity op) behind
with_value width (Var var) sizes words behind = slice_index_or words var 0 ∷ behind
with_value width (Lit word) sizes words behind = word ∷ behind

-- the values of the terms, where variable k has word k
abbrev pub values : List Node → List ℕ → List ℕ
values [] words = []
values (node ∷ rest) words = with_value node.width node.kind (roots rest) words (values rest words)

-- how many terms stand behind a node as its sources
abbrev pub sources_of : Kind → ℕ
sources_of (App op) = arity op
sources_of (Var var) = 0
sources_of (Lit word) = 0

-- the nodes are those of so many terms
abbrev pub AreTerms : ℕ → List Node → Type 0
AreTerms zero [] = Unit {0}
AreTerms zero (node ∷ nodes) = ⊥
AreTerms (suc k) [] = ⊥
AreTerms (suc k) (node ∷ nodes) = AreTerms (sources_of node.kind + k) nodes

-- how many nodes the first so many of the terms have
abbrev pub extent : ℕ → List Node → ℕ
extent zero nodes = 0
extent (suc k) [] = 0
extent (suc k) (node ∷ nodes) = suc (extent (sources_of node.kind + k) nodes)

-- the first of the terms, and those behind it
abbrev pub first_term : List Node → List Node
first_term nodes = take (extent 1 nodes) nodes

abbrev pub behind_first : List Node → List Node
behind_first nodes = drop (extent 1 nodes) nodes

-- where the part begins to which the numbers of sources lead, from 0 on
abbrev pub place_at : List ℕ → List Node → Option ℕ
place_at [] nodes = Some 0
place_at (k ∷ path) [] = None
place_at (k ∷ path) (node ∷ nodes) =
    if nat_lt k (sources_of node.kind) then option_map (λ place. suc (extent k nodes + place)) (place_at path (drop (extent k nodes) nodes)) else None

-- whether two nodes are the same
abbrev pub same_kind : Kind → Kind → Bool
same_kind (App op) (App other) = sameb op_type.the_type op other
same_kind (Var var) (Var other) = nat_eq var other
same_kind (Lit word) (Lit other) = nat_eq word other
same_kind _ _ = false

abbrev pub same_node : Node → Node → Bool
same_node node other = same_kind node.kind other.kind && same_width node.width other.width

abbrev pub same_nodes : List Node → List Node → Bool
same_nodes nodes others = pointwise same_node nodes others

-- terms at their sizes
abbrev pub nodes_of : Terms → List Width → List Node
nodes_of Nil widths = []
nodes_of (VarThen var constant size cond rest) widths = record { kind = Var var; width = first_of widths } ∷ nodes_of rest (drop 1 widths)
nodes_of (LitThen value boolean rest) widths =
    record { kind = Lit (residue (width_bits (first_of widths)) value); width = first_of widths } ∷ nodes_of rest (drop 1 widths)
nodes_of (AppThen op size once args rest) widths =
    record { kind = App op; width = first_of widths } ∷ nodes_of args (drop 1 widths) ++ nodes_of rest (drop (suc (size_of args)) widths)
