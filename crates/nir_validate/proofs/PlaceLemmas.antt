-- The pass over the order of nodes, node by node.
use Rattle.std.specs.Prelude.{◌≡◌, ℕ, ◌+◌, ◌<◌, true, false, List, [], ◌∷◌, length}
use Rattle.std.proofs.Common.{sym, ◌∙◌, ap, subst, get_or, drop}
use Rattle.std.proofs.lemmas.List.{drop_more}
use Rattle.nir_ir.specs.declared.ids.IfId.{IfId}
use Rattle.nir_ir.specs.declared.ids.LoopId.{LoopId}
use Rattle.nir_ir.specs.declared.ids.ValueId.{ValueId}
use Rattle.nir_ir.specs.declared.node.Block.{Block}
use Rattle.nir_ir.specs.declared.node.Node.{Node, Node-F, out-Node, roll-Node, roll-out-Node}
use Rattle.nir_ir.specs.declared.node.Node.TheVariants as node
use Rattle.nir_ir.specs.declared.node.Node.TheOpen as layer
use Rattle.nir_ir.specs.Nodes.{before-block, before-if, before-loop, nodes_of}
use Rattle.nir_ir.specs.Splits.{nodes_of-block, nodes_of-if, nodes_of-loop}
use Rattle.nir_validate.specs.declared.first.Pass.{Pass}
use Rattle.nir_validate.specs.declared.order.Row.{Row}
use Rattle.nir_validate.specs.Passing.{next_item}
use Rattle.nir_validate.specs.Placing.{begins_with_block, past_block, placed, placed_first, placed_in, turned_to}

-- the first node of a list, and then the rest
Step : Row → Pass → List Node → Node → Type 0
Step row pass rest n = placed row pass (nodes_of (n ∷ rest)) ≡ placed (turned_to row (begins_with_block (nodes_of (n ∷ []))) pass.at) (placed_first pass (nodes_of (n ∷ []))) (nodes_of rest)

step_block : (row : Row) (pass : Pass) (rest : List Node) (b : Block) → Step row pass rest (node.Block b)
unfolding Step
step_block row pass rest b =
    ap (placed row pass) (before-block b (nodes_of rest))
    ∙ sym (ap (λ x. placed (turned_to row (begins_with_block x) pass.at) (placed_first pass x) (nodes_of rest)) (nodes_of-block b))

step_if : (row : Row) (pass : Pass) (rest : List Node) (id : IfId) (condition : ValueId) (first second : List Node) → Step row pass rest (node.If id condition first second)
unfolding Step
step_if row pass rest id condition first second =
    ap (placed row pass) (before-if id condition first second (nodes_of rest))
    ∙ sym (ap (λ x. placed (turned_to row (begins_with_block x) pass.at) (placed_first pass x) (nodes_of rest)) (nodes_of-if id condition first second))

step_loop : (row : Row) (pass : Pass) (rest : List Node) (id : LoopId) (body : List Node) → Step row pass rest (node.Loop id body)
unfolding Step
step_loop row pass rest id body =
    ap (placed row pass) (before-loop id body (nodes_of rest))
    ∙ sym (ap (λ x. placed (turned_to row (begins_with_block x) pass.at) (placed_first pass x) (nodes_of rest)) (nodes_of-loop id body))

step_layer : (row : Row) (pass : Pass) (rest : List Node) (l : Node-F Node) → Step row pass rest (roll-Node l)
step_layer row pass rest (layer.Block b) = subst (Step row pass rest) (sym (node.rolls-Block b)) (step_block row pass rest b)
step_layer row pass rest (layer.If id condition first second) = subst (Step row pass rest) (sym (node.rolls-If id condition first second)) (step_if row pass rest id condition first second)
step_layer row pass rest (layer.Loop id body) = subst (Step row pass rest) (sym (node.rolls-Loop id body)) (step_loop row pass rest id body)

pub placed-cons : (n : Node) (row : Row) (pass : Pass) (rest : List Node) → placed row pass (nodes_of (n ∷ rest)) ≡ placed (turned_to row (begins_with_block (nodes_of (n ∷ []))) pass.at) (placed_first pass (nodes_of (n ∷ []))) (nodes_of rest)
unfolding Step
placed-cons n row pass rest = subst (Step row pass rest) (roll-out-Node n) (step_layer row pass rest (out-Node n))

pub placed-drop : (list : List Node) (i : ℕ) (n : Node) (row : Row) (pass : Pass) → i < length list → n ≡ get_or list i n
    → placed row pass (nodes_of (drop i list)) ≡ placed (turned_to row (begins_with_block (nodes_of (n ∷ []))) pass.at) (placed_first pass (nodes_of (n ∷ []))) (nodes_of (drop (i + 1) list))
placed-drop list i n row pass within at =
    ap (λ t. placed row pass (nodes_of t)) (drop_more list i n within ∙ ap (λ m. m ∷ drop (i + 1) list) (sym at))
    ∙ placed-cons n row pass (drop (i + 1) list)

pub placed_first-block : (pass : Pass) (b : Block) → placed_first pass (nodes_of (node.Block b ∷ [])) ≡ past_block b pass
placed_first-block pass b = ap (placed_first pass) (nodes_of-block b)

pub placed_first-if : (pass : Pass) (id : IfId) (condition : ValueId) (first second : List Node)
    → placed_first pass (nodes_of (node.If id condition first second ∷ [])) ≡ placed_in pass.at (placed_in pass.at (next_item pass pass.found) (nodes_of first)) (nodes_of second)
placed_first-if pass id condition first second = ap (placed_first pass) (nodes_of-if id condition first second)

pub placed_first-loop : (pass : Pass) (id : LoopId) (body : List Node) → placed_first pass (nodes_of (node.Loop id body ∷ [])) ≡ placed_in pass.at (next_item pass pass.found) (nodes_of body)
placed_first-loop pass id body = ap (placed_first pass) (nodes_of-loop id body)

pub ruleset placing_steps = (placed_first-block, placed_first-if, placed_first-loop, placed-drop)

pub begins-block : (b : Block) → begins_with_block (nodes_of (node.Block b ∷ [])) ≡ true
begins-block b = ap begins_with_block (nodes_of-block b)

pub begins-if : (id : IfId) (condition : ValueId) (first second : List Node) → begins_with_block (nodes_of (node.If id condition first second ∷ [])) ≡ false
begins-if id condition first second = ap begins_with_block (nodes_of-if id condition first second)

pub begins-loop : (id : LoopId) (body : List Node) → begins_with_block (nodes_of (node.Loop id body ∷ [])) ≡ false
begins-loop id body = ap begins_with_block (nodes_of-loop id body)

pub ruleset begin_steps = (begins-block, begins-if, begins-loop)
