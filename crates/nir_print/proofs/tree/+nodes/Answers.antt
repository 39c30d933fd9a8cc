use Rattle.std.proofs.Common.{◌≡◌, ◌++◌, ap, ◌∙◌}
use Rattle.nir_ir.specs.Nodes.{nodes_of}
use Rattle.nir_print.specs.Text.{deeper, nodes_text}
use Rattle.nir_print.proofs.Lines.{on_ok, three_pushed, five_pushed, nodes_text-block, nodes_text-if, nodes_text-loop, node_pushed}
use Rattle.nir_print.proofs.tree.+nodes.Goals as goal

pub push_nodes-loop-node-preserved : goal.push_nodes-loop-node-preserved
push_nodes-loop-node-preserved t c =
    node_pushed c.args.naming.now c.args.indent.now c.loop-node.out.items c.push_node.new.out.items c.args.list.now c.loop-node.node-index c.node-item.result c.loop-node-test.true c.node-item.is c.in_ok-push_node.ensures
    ∙ c.loop-node.invariant

pub push_node-returns-in-Block : goal.push_node-returns-in-Block
push_node-returns-in-Block t c =
    on_ok c.push_block.result _ _
    (λ written. written ∙ ap (λ text. c.args.out.now.items ++ text) (nodes_text-block c.args.naming.now c.args.indent.now c.args.node.now c.in-Block.block c.in-Block.is))
    c.push_block.ensures

pub push_node-returns-in_ok-push_nodes-in-If-2 : goal.push_node-returns-in_ok-push_nodes-in-If-2
push_node-returns-in_ok-push_nodes-in-If-2 t c =
    let naming = c.args.naming.now in
    let inner = c.as_slice-inner.result.now in
    let spaces : inner ≡ deeper c.args.indent.now = c.as_slice-inner.ensures.value ∙ c.in_ok-spaces-in-If.ensures in
    let head = c.push_if_head.new.out.items in
    let between = c.push_line.new.out.items in
    on_ok c.push_line-in-If.result _ _
    (λ last.
    five_pushed c.args.out.now.items head c.push_nodes.new.out.items between c.push_nodes-in-If.new.out.items c.push_line-in-If.new.out.items _ _ _ _ _
    c.in_ok-push_if_head-in-If.ensures
    (c.in_ok-push_nodes-in-If.ensures
    ∙ ap (λ list. head ++ nodes_text naming inner (nodes_of list)) c.as_slice.ensures
    ∙ ap (λ i. head ++ nodes_text naming i (nodes_of c.in-If.yes)) spaces)
    c.in_ok-push_line-in-If.ensures
    (c.in_ok-push_nodes-in-If-2.ensures
    ∙ ap (λ list. between ++ nodes_text naming inner (nodes_of list)) c.as_slice-in-If.ensures
    ∙ ap (λ i. between ++ nodes_text naming i (nodes_of c.in-If.no)) spaces)
    last
    ∙ ap (λ text. c.args.out.now.items ++ text) (nodes_text-if naming c.args.indent.now c.args.node.now c.in-If.id c.in-If.cond c.in-If.yes c.in-If.no c.in-If.is))
    c.push_line-in-If.ensures

pub push_node-returns-in_ok-push_nodes-in-Loop : goal.push_node-returns-in_ok-push_nodes-in-Loop
push_node-returns-in_ok-push_nodes-in-Loop t c =
    let naming = c.args.naming.now in
    let inner = c.as_slice-inner-in-Loop.result.now in
    let spaces : inner ≡ deeper c.args.indent.now = c.as_slice-inner-in-Loop.ensures.value ∙ c.in_ok-spaces-in-Loop.ensures in
    let head = c.push_line-in-Loop.new.out.items in
    on_ok c.push_line-in-Loop-2.result _ _
    (λ last.
    three_pushed c.args.out.now.items head c.push_nodes-in-Loop.new.out.items c.push_line-in-Loop-2.new.out.items _ _ _
    c.in_ok-push_line-in-Loop.ensures
    (c.in_ok-push_nodes-in-Loop.ensures
    ∙ ap (λ list. head ++ nodes_text naming inner (nodes_of list)) c.as_slice-in-Loop.ensures
    ∙ ap (λ i. head ++ nodes_text naming i (nodes_of c.in-Loop.body)) spaces)
    last
    ∙ ap (λ text. c.args.out.now.items ++ text) (nodes_text-loop naming c.args.indent.now c.args.node.now c.in-Loop.id c.in-Loop.body c.in-Loop.is))
    c.push_line-in-Loop-2.ensures
