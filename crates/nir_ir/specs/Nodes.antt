-- Lists of nodes as one chain, in which each node stands before the rest of its list (structured control flow, as in Mesa's NIR).
use Rattle.std.specs.Prelude.{◌≡◌, refl, List, [], ◌∷◌, ◌++◌, map}
use Rattle.std.proofs.Common.{sym, ◌∙◌, ap}
use Rattle.nir_ir.specs.declared.ids.IfId.{IfId}
use Rattle.nir_ir.specs.declared.ids.LoopId.{LoopId}
use Rattle.nir_ir.specs.declared.ids.ValueId.{ValueId}
use Rattle.nir_ir.specs.declared.node.Block as block
use Rattle.nir_ir.specs.declared.node.Node.{Node, Node-F, out-Node, roll-Node, map-Node, fold-Node, fold-roll-Node, fold_out-Node}
use Rattle.nir_ir.specs.declared.node.Node.TheVariants as node
use Rattle.nir_ir.specs.declared.node.Node.TheOpen as layer

-- a list of blocks, ifs and loops
pub data Nodes : Type 0 where
  Nil : Nodes
  BlockThen : (block : block.Block) (rest : Nodes) → Nodes
  IfThen : (id : IfId) (cond : ValueId) (first second rest : Nodes) → Nodes
  LoopThen : (id : LoopId) (body rest : Nodes) → Nodes

-- one after another
abbrev pub joined : List (Nodes → Nodes) → Nodes
joined [] = Nil
joined (f ∷ fs) = f (joined fs)

abbrev pub before_layer : Node-F (Nodes → Nodes) → Nodes → Nodes
before_layer (layer.Block b) rest = BlockThen b rest
before_layer (layer.If id cond first second) rest = IfThen id cond (joined first) (joined second) rest
before_layer (layer.Loop id body) rest = LoopThen id (joined body) rest

-- a node before a list
pub before : Node → Nodes → Nodes
before = fold-Node (Nodes → Nodes) before_layer

-- a list of nodes of the code as a chain
abbrev pub nodes_of : List Node → Nodes
nodes_of list = joined (map before list)

-- one chain after another
abbrev pub then : Nodes → Nodes → Nodes
then Nil more = more
then (BlockThen b rest) more = BlockThen b (then rest more)
then (IfThen id cond first second rest) more = IfThen id cond first second (then rest more)
then (LoopThen id body rest) more = LoopThen id body (then rest more)

-- a chain as a list of nodes of the code
abbrev pub list_of : Nodes → List Node
list_of Nil = []
list_of (BlockThen b rest) = node.Block b ∷ list_of rest
list_of (IfThen id cond first second rest) = node.If id cond (list_of first) (list_of second) ∷ list_of rest
list_of (LoopThen id body rest) = node.Loop id (list_of body) ∷ list_of rest

pub before-block : (b : block.Block) (rest : Nodes) → before (node.Block b) rest ≡ BlockThen b rest
unfolding before roll-Node denote.Hole.Carrier.roll
before-block b rest = ap (λ f. f rest) (fold-roll-Node (Nodes → Nodes) before_layer (layer.Block b))

pub before-if : (id : IfId) (cond : ValueId) (first second : List Node) (rest : Nodes) → before (node.If id cond first second) rest ≡ IfThen id cond (nodes_of first) (nodes_of second) rest
unfolding before roll-Node denote.Hole.Carrier.roll
before-if id cond first second rest = ap (λ f. f rest) (fold-roll-Node (Nodes → Nodes) before_layer (layer.If id cond first second))

pub before-loop : (id : LoopId) (body : List Node) (rest : Nodes) → before (node.Loop id body) rest ≡ LoopThen id (nodes_of body) rest
unfolding before roll-Node denote.Hole.Carrier.roll
before-loop id body rest = ap (λ f. f rest) (fold-roll-Node (Nodes → Nodes) before_layer (layer.Loop id body))

-- a chain made of a list is that list's, and no other
pub nodes_of-list_of : (nodes : Nodes) → nodes_of (list_of nodes) ≡ nodes
nodes_of-list_of Nil = refl
nodes_of-list_of (BlockThen b rest) = before-block b (nodes_of (list_of rest)) ∙ ap (BlockThen b) (nodes_of-list_of rest)
nodes_of-list_of (IfThen id cond first second rest) =
    before-if id cond (list_of first) (list_of second) (nodes_of (list_of rest))
    ∙ ap (λ x. IfThen id cond x (nodes_of (list_of second)) (nodes_of (list_of rest))) (nodes_of-list_of first)
    ∙ ap (λ x. IfThen id cond first x (nodes_of (list_of rest))) (nodes_of-list_of second)
    ∙ ap (IfThen id cond first second) (nodes_of-list_of rest)
nodes_of-list_of (LoopThen id body rest) =
    before-loop id (list_of body) (nodes_of (list_of rest))
    ∙ ap (λ x. LoopThen id x (nodes_of (list_of rest))) (nodes_of-list_of body)
    ∙ ap (LoopThen id body) (nodes_of-list_of rest)

-- a node before one chain and then another
pub then-Nil : (nodes : Nodes) → then nodes Nil ≡ nodes
then-Nil Nil = refl
then-Nil (BlockThen b rest) = ap (BlockThen b) (then-Nil rest)
then-Nil (IfThen id cond first second rest) = ap (IfThen id cond first second) (then-Nil rest)
then-Nil (LoopThen id body rest) = ap (LoopThen id body) (then-Nil rest)

pub then_assoc : (a b c : Nodes) → then (then a b) c ≡ then a (then b c)
then_assoc Nil b c = refl
then_assoc (BlockThen x rest) b c = ap (BlockThen x) (then_assoc rest b c)
then_assoc (IfThen id cond first second rest) b c = ap (IfThen id cond first second) (then_assoc rest b c)
then_assoc (LoopThen id body rest) b c = ap (LoopThen id body) (then_assoc rest b c)

then-before_layer : (layer : Node-F (Nodes → Nodes)) (rest more : Nodes) → then (before_layer layer rest) more ≡ before_layer layer (then rest more)
then-before_layer (layer.Block b) rest more = refl
then-before_layer (layer.If id cond first second) rest more = refl
then-before_layer (layer.Loop id body) rest more = refl

-- what stands before a chain stands before the longer one
pub then-before : (n : Node) (rest more : Nodes) → then (before n rest) more ≡ before n (then rest more)
unfolding before
then-before n rest more =
    let opened : before n ≡ before_layer (map-Node Node (Nodes → Nodes) before (out-Node n)) = fold_out-Node (Nodes → Nodes) before_layer n in
    ap (λ f. then (f rest) more) opened
    ∙ then-before_layer (map-Node Node (Nodes → Nodes) before (out-Node n)) rest more
    ∙ ap (λ f. f (then rest more)) (sym opened)

-- two lists, one after another
pub nodes_of-append : (first second : List Node) → nodes_of (first ++ second) ≡ then (nodes_of first) (nodes_of second)
nodes_of-append [] second = refl
nodes_of-append (n ∷ rest) second = ap (before n) (nodes_of-append rest second) ∙ sym (then-before n (nodes_of rest) (nodes_of second))
