use Rattle.std.proofs.Common.{◌+◌, ◌∙◌, ap, ℕ, List, drop, sym, [], ◌∷◌}
use Rattle.nir_ir.specs.Items.{items}
use Rattle.nir_ir.specs.Nodes.{nodes_of}
use Rattle.nir_index.specs.declared.index.Index.{Index}
use Rattle.nir_index.specs.Index.{noted}
use Rattle.nir_index.proofs.NotedLemmas.{if_ok-same, noted-block_node, noted-if, noted-loop, noted-node_end, noted-node_step}
use Rattle.nir_index.proofs.index.+note.Goals as goal

pub note_list-loop-node-preserved : goal.note_list-loop-node-preserved
note_list-loop-node-preserved t c =
    ap (noted (items (nodes_of (drop (c.loop-node.node-index + 1) c.args.list.now)))) c.in_ok-note_node.ensures
    ∙ noted-node_step c.args.list.now c.loop-node.node-index c.node-item.result c.loop-node.index c.loop-node-test.true c.node-item.is
    ∙ c.loop-node.invariant

pub note_list-returns : goal.note_list-returns
note_list-returns t c = noted-node_end c.args.list.now c.loop-node.node-index c.loop-node.index c.loop-node-test.false ∙ c.loop-node.invariant

pub note_node-returns-in-Block : goal.note_node-returns-in-Block
note_node-returns-in-Block t c = rw (c.in-Block.is, noted-block_node c.in-Block.block c.args.index.now) c.note_block.ensures

pub note_node-returns-in-Loop : goal.note_node-returns-in-Loop
note_node-returns-in-Loop t c = rw (c.in-Loop.is, noted-loop c.in-Loop.id c.in-Loop.body c.args.index.now, ← c.as_slice-in-Loop.ensures) c.note_list-in-Loop.ensures

pub note_node-returns-in_ok-note_list-in-If : goal.note_node-returns-in_ok-note_list-in-If
note_node-returns-in_ok-note_list-in-If t c =
    let with_counts : List ℕ → Index = λ counts. record { definers = c.args.index.now.definers; counts = counts } in
    if_ok-same c.note_list-in-If.result c.note_list-in-If.new.index (noted (items (nodes_of c.as_slice-in-If.result.now)) c.note_list.new.index) (noted (items (nodes_of (c.args.node.now ∷ []))) c.args.index.now)
    (ap (λ list. noted (items (nodes_of list)) c.note_list.new.index) c.as_slice-in-If.ensures
    ∙ ap (noted (items (nodes_of c.in-If.no))) c.in_ok-note_list-in-If.ensures
    ∙ ap (λ list. noted (items (nodes_of c.in-If.no)) (noted (items (nodes_of list)) (with_counts c.count_use.new.counts))) c.as_slice.ensures
    ∙ ap (λ counts. noted (items (nodes_of c.in-If.no)) (noted (items (nodes_of c.in-If.yes)) (with_counts counts))) c.in_ok-count_use-in-If.ensures
    ∙ noted-if c.in-If.id c.in-If.cond c.in-If.yes c.in-If.no c.args.index.now
    ∙ ap (λ n. noted (items (nodes_of (n ∷ []))) c.args.index.now) (sym c.in-If.is))
    c.note_list-in-If.ensures
