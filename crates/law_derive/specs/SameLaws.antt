-- Nodes that are found the same are equal.
use denote.Enum.Bare.{same_true}
use Rattle.std.proofs.Common.{◌≡◌, true, List, [], ◌∷◌, refl, ap}
use Rattle.std.proofs.lemmas.Bool.{and_parts, eqb-true}
use Rattle.nir_ops.specs.contracts.op.Op as op_type
use Rattle.nir_ops.specs.declared.width.Width.{Width}
use Rattle.op_eval.specs.Calls.{same_width}
use Rattle.op_eval.specs.Sizes.{same_width-same}
use Rattle.law_derive.specs.declared.node.Kind.{Kind}
use Rattle.law_derive.specs.declared.node.Kind.TheVariants.{App, Var, Lit}
use Rattle.law_derive.specs.declared.node.Node.{Node}
use Rattle.law_derive.specs.Nodes.{same_kind, same_node, same_nodes}

kinds_equal : (kind other : Kind) → same_kind kind other ≡ true → kind ≡ other
kinds_equal (App op) (App other) is = ap App (same_true op_type.the_type tt op other is)
kinds_equal (App op) (Var other) is = cc
kinds_equal (App op) (Lit other) is = cc
kinds_equal (Var var) (App other) is = cc
kinds_equal (Var var) (Var other) is = ap Var (eqb-true var other is)
kinds_equal (Var var) (Lit other) is = cc
kinds_equal (Lit word) (App other) is = cc
kinds_equal (Lit word) (Var other) is = cc
kinds_equal (Lit word) (Lit other) is = ap Lit (eqb-true word other is)

abbrev node_of : Kind → Width → Node
node_of kind width = record { kind = kind; width = width }

pub node_equal : (node other : Node) → same_node node other ≡ true → node ≡ other
node_equal node other is =
    let parts = and_parts (same_kind node.kind other.kind) (same_width node.width other.width) is in
    let kind = kinds_equal node.kind other.kind parts.0 in
    let width = same_width-same node.width other.width parts.1 in
    λ i. node_of (kind i) (width i)

pub nodes_equal : (nodes others : List Node) → same_nodes nodes others ≡ true → nodes ≡ others
nodes_equal [] [] is = refl
nodes_equal [] (other ∷ others) is = cc
nodes_equal (node ∷ nodes) [] is = cc
nodes_equal (node ∷ nodes) (other ∷ others) is =
    let parts = and_parts (same_node node other) (same_nodes nodes others) is in
    let first = node_equal node other parts.0 in
    let rest = nodes_equal nodes others parts.1 in
    λ i. first i ∷ rest i
