use Rattle.std.proofs.Common.{◌≡◌, ◌++◌, ◌+◌, ◌∷◌, [], List, drop, ap, sym, subst, rules, OnOk}
use denote.Param.Weighed.{at_most}
use Rattle.std.specs.List.{AllByRecursion}
use Rattle.nir_ir.specs.declared.journal.Use.{Use}
use Rattle.nir_ir.specs.declared.node.Node.{Node, the_lemmas}
use Rattle.nir_ir.specs.Items.{items}
use Rattle.nir_ir.specs.Nodes.{Nodes, nodes_of}
use Rattle.nir_ir.specs.Shaped.{IsShapedItem}
use Rattle.nir_ir.specs.Splits.{nodes_of-block}
use Rattle.nir_tree.specs.Listed.{uses_in}
use Rattle.nir_tree.proofs.ListedLemmas.{added_more, if_added, if_shaped, loop_shaped, nodes_shaped, uses_in-drop, uses_in-loop}
use Rattle.nir_tree.proofs.use_list.+users.Goals as goal

pub add_list-add_node-requires : goal.add_list-add_node-requires
add_list-add_node-requires t c = (
  search (rules, the_lemmas, at_most),
  (nodes_shaped c.args.list.now c.loop-node.node-index c.node-item.result c.loop-node-test.true c.node-item.is c.loop-node.invariant.shaped).0,
)

pub add_list-loop-node-preserved : goal.add_list-loop-node-preserved
add_list-loop-node-preserved t c = record {
  added = added_more (c.args.uses.now ++ uses_in c.args.value (nodes_of c.args.list.now)) c.loop-node.uses c.add_node.new.uses (uses_in c.args.value (nodes_of (c.node-item.result ∷ [])))
      (uses_in c.args.value (nodes_of (drop c.loop-node.node-index c.args.list.now))) (uses_in c.args.value (nodes_of (drop (c.loop-node.node-index + 1) c.args.list.now)))
      c.in_ok-add_node.ensures
      (uses_in-drop c.args.value c.args.list.now c.loop-node.node-index c.node-item.result c.loop-node-test.true c.node-item.is)
      c.loop-node.invariant.added;
  shaped = (nodes_shaped c.args.list.now c.loop-node.node-index c.node-item.result c.loop-node-test.true c.node-item.is c.loop-node.invariant.shaped).1;
}

pub add_node-add_block-requires : goal.add_node-add_block-requires
add_node-add_block-requires t c =
    subst (λ (nodes : Nodes). AllByRecursion IsShapedItem (items nodes)) (nodes_of-block c.in-Block.block)
    (subst (λ (n : Node). AllByRecursion IsShapedItem (items (nodes_of (n ∷ [])))) c.in-Block.is c.requires.shaped)

pub add_node-add_list-requires : goal.add_node-add_list-requires
add_node-add_list-requires t c = (
  search (rules, the_lemmas, at_most),
  subst (λ (list : List Node). AllByRecursion IsShapedItem (items (nodes_of list))) (sym c.as_slice.ensures)
      (if_shaped c.in-If.id c.in-If.cond c.in-If.yes c.in-If.no (subst (λ (n : Node). AllByRecursion IsShapedItem (items (nodes_of (n ∷ [])))) c.in-If.is c.requires.shaped)).0,
)

pub add_node-add_list-requires-in-If : goal.add_node-add_list-requires-in-If
add_node-add_list-requires-in-If t c = (
  search (rules, the_lemmas, at_most),
  subst (λ (list : List Node). AllByRecursion IsShapedItem (items (nodes_of list))) (sym c.as_slice-in-If.ensures)
      (if_shaped c.in-If.id c.in-If.cond c.in-If.yes c.in-If.no (subst (λ (n : Node). AllByRecursion IsShapedItem (items (nodes_of (n ∷ [])))) c.in-If.is c.requires.shaped)).1,
)

pub add_node-add_list-requires-in-Loop : goal.add_node-add_list-requires-in-Loop
add_node-add_list-requires-in-Loop t c = (
  search (rules, the_lemmas, at_most),
  subst (λ (list : List Node). AllByRecursion IsShapedItem (items (nodes_of list))) (sym c.as_slice-in-Loop.ensures)
      (loop_shaped c.in-Loop.id c.in-Loop.body (subst (λ (n : Node). AllByRecursion IsShapedItem (items (nodes_of (n ∷ [])))) c.in-Loop.is c.requires.shaped)),
)

pub add_node-returns-in-Block : goal.add_node-returns-in-Block
add_node-returns-in-Block t c =
    rw c.in-Block.is
    (subst (λ (nodes : Nodes). OnOk c.add_block.result (c.add_block.new.uses ≡ c.args.uses.now ++ uses_in c.args.value nodes)) (sym (nodes_of-block c.in-Block.block)) c.add_block.ensures)

pub add_node-returns-in_ok-add_list-in-If : goal.add_node-returns-in_ok-add_list-in-If
add_node-returns-in_ok-add_list-in-If t c =
    rw c.in-If.is
    (subst (λ (t : List Use). OnOk c.add_list-in-If.result (c.add_list-in-If.new.uses ≡ t))
    (if_added c.args.value c.in-If.id c.in-If.cond c.in-If.yes c.in-If.no c.as_slice.result.now c.as_slice-in-If.result.now c.args.uses.now c.add.new.uses c.add_list.new.uses
    c.as_slice.ensures c.as_slice-in-If.ensures c.in_ok-add-in-If.ensures c.in_ok-add_list-in-If.ensures)
    c.add_list-in-If.ensures)

pub add_node-returns-in-Loop : goal.add_node-returns-in-Loop
add_node-returns-in-Loop t c =
    let inside = ap (λ (list : List Node). uses_in c.args.value (nodes_of list)) c.as_slice-in-Loop.ensures in
    rw (c.in-Loop.is, uses_in-loop c.args.value c.in-Loop.id c.in-Loop.body)
    (subst (λ (t : List Use). OnOk c.add_list-in-Loop.result (c.add_list-in-Loop.new.uses ≡ c.args.uses.now ++ t)) inside c.add_list-in-Loop.ensures)
