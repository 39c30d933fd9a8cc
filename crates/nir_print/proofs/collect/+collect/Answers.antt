use Rattle.std.proofs.Common.{◌∙◌, ◌&&◌, ap, sym, fold}
use Rattle.nir_ir.specs.Nodes.{nodes_of}
use Rattle.nir_ir.specs.Items.{items}
use Rattle.nir_print.specs.Naming.{with_item}
use Rattle.nir_print.specs.RoundTrip.{are_words, addresses}
use Rattle.nir_print.proofs.Walks.{fold-items-drop}
use Rattle.nir_print.proofs.WordLemmas.{words-drop}
use Rattle.nir_print.proofs.collect.+collect.Goals as goal
use Rattle.std.proofs.Common.{◌+◌, drop}

pub collect_list-loop-node-preserved : goal.collect_list-loop-node-preserved
collect_list-loop-node-preserved t c = (
  ap (λ n. fold with_item n (items (nodes_of (drop (c.loop-node.node-index + 1) c.args.list.now)))) c.in_ok-collect_node.ensures.found
      ∙ sym (fold-items-drop with_item c.loop-node.found c.args.list.now c.loop-node.node-index c.node-item.result c.loop-node-test.true c.node-item.is)
      ∙ c.loop-node.invariant.0,
  sym (words-drop c.args.list.now c.loop-node.node-index c.node-item.result c.loop-node-test.true c.node-item.is
      ∙ ap (λ b. b && are_words (addresses (nodes_of (drop (c.loop-node.node-index + 1) c.args.list.now)))) c.in_ok-collect_node.ensures.words)
      ∙ c.loop-node.invariant.1,
)
