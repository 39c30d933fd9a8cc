-- A walk through a list of nodes, item by item: what a node and the nodes behind it lead to.
use Rattle.std.proofs.Common.{◌≡◌, ℕ, ◌+◌, ◌<◌, List, [], ◌∷◌, length, get_or, drop, fold, ap, ◌∙◌}
use Rattle.std.proofs.lemmas.Grind.{fold-append}
use Rattle.nir_ir.specs.declared.node.Node.{Node}
use Rattle.nir_ir.specs.Nodes.{nodes_of}
use Rattle.nir_ir.specs.Items.{Item, items}
use Rattle.nir_ir.specs.Splits.{items-block, items-if, items-loop, items-drop}

pub fold-items-drop : {A : Type 0} (step : A → Item → A) (from : A) (list : List Node) (i : ℕ) (n : Node) → i < length list → n ≡ get_or list i n → fold step from (items (nodes_of (drop i list))) ≡ fold step (fold step from (items (nodes_of (n ∷ [])))) (items (nodes_of (drop (i + 1) list)))
fold-items-drop step from list i n within at =
    ap (fold step from) (items-drop list i n within at)
    ∙ fold-append step from (items (nodes_of (n ∷ []))) (items (nodes_of (drop (i + 1) list)))

pub ruleset node_items = (items-block, items-if, items-loop, fold-append)
