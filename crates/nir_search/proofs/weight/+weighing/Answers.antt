use Rattle.std.proofs.Common.{arith}
use Rattle.rule_term.specs.Table.{op_weight}
use Rattle.nir_search.proofs.WeightLemmas.{total-block, total-drop, total-loop}
use Rattle.nir_search.proofs.weight.+weighing.Goals as goal

pub without_list-loop-node-preserved : goal.without_list-loop-node-preserved
without_list-loop-node-preserved t c =
    let split = total-drop (op_weight c.args.table.now) c.args.list.now c.loop-node.node-index c.node-item.result c.loop-node-test.true c.node-item.is in
    omega (arith, split)

pub without_node-returns-in-Block : goal.without_node-returns-in-Block
without_node-returns-in-Block t c = rw (c.in-Block.is, total-block (op_weight c.args.table.now) c.in-Block.block, ← c.as_slice.ensures) c.without_instrs.ensures

pub without_node-returns-in-Loop : goal.without_node-returns-in-Loop
without_node-returns-in-Loop t c = rw (c.in-Loop.is, total-loop (op_weight c.args.table.now) c.in-Loop.id c.in-Loop.body, ← c.as_slice-in-Loop.ensures) c.without_list-in-Loop.ensures
