use Rattle.std.proofs.Common.{◌∙◌, List, drop, ◌+◌, ap}
use Rattle.nir_ir.specs.declared.node.Node.{Node}
use Rattle.nir_ir.specs.Nodes.{nodes_of, then}
use Rattle.nir_tree.specs.Edited.{edited}
use Rattle.nir_tree.proofs.EditedLemmas.{copied-all, copied-block, copied-if, copied-loop, copied-more}
use Rattle.nir_tree.proofs.copy.+edited.Goals as goal

pub edited_node-returns-in_ok-block-in-Block : goal.edited_node-returns-in_ok-block-in-Block
edited_node-returns-in_ok-block-in-Block t c =
    rw c.in-Block.is (copied-block c.args.edit c.in-Block.block c.in_ok-block-in-Block.block c.in_ok-block-in-Block.ensures)

pub edited_node-returns-in_ok-no-in-If : goal.edited_node-returns-in_ok-no-in-If
edited_node-returns-in_ok-no-in-If t c =
    let first = c.in_ok-yes-in-If.ensures ∙ ap (λ (list : List Node). edited c.args.edit (nodes_of list)) c.as_slice.ensures in
    let second = c.in_ok-no-in-If.ensures ∙ ap (λ (list : List Node). edited c.args.edit (nodes_of list)) c.as_slice-in-If.ensures in
    rw c.in-If.is (copied-if c.args.edit c.in-If.id c.in-If.cond c.in-If.yes c.in-If.no c.in_ok-yes-in-If.yes c.in_ok-no-in-If.no first second)

pub edited_node-returns-in_ok-body-in-Loop : goal.edited_node-returns-in_ok-body-in-Loop
edited_node-returns-in_ok-body-in-Loop t c =
    let inside = c.in_ok-body-in-Loop.ensures ∙ ap (λ (list : List Node). edited c.args.edit (nodes_of list)) c.as_slice-in-Loop.ensures in
    rw c.in-Loop.is (copied-loop c.args.edit c.in-Loop.id c.in-Loop.body c.in_ok-body-in-Loop.body inside)

pub edited_list-loop-node-preserved : goal.edited_list-loop-node-preserved
edited_list-loop-node-preserved t c =
    ap (λ (list : List Node). then (nodes_of list) (edited c.args.edit (nodes_of (drop (c.loop-node.node-index + 1) c.args.list.now)))) c.in_ok-push.ensures.ok
    ∙ copied-more c.args.edit c.args.list.now c.loop-node.copy c.loop-node.node-index c.node-item.result c.in_ok-edited_node.field-0 c.loop-node-test.true c.node-item.is c.in_ok-edited_node.ensures c.loop-node.invariant

pub edited_list-returns : goal.edited_list-returns
edited_list-returns t c = copied-all c.args.edit c.args.list.now c.loop-node.copy c.loop-node.node-index c.loop-node-test.false c.loop-node.invariant
