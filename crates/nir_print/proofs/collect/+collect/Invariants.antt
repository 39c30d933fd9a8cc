-- the nodes that are left lead to what all of them lead to
use Rattle.std.proofs.Common.{◌≡◌, drop, fold}
use Rattle.nir_ir.specs.Nodes.{nodes_of}
use Rattle.nir_ir.specs.Items.{items}
use Rattle.nir_print.specs.Naming.{with_item}
use Rattle.nir_print.specs.RoundTrip.{are_words, addresses}
use Rattle.nir_print.proofs.collect.+collect.Given as goal

abbrev pub invariant-collect_list-loop-node : goal.invariant-collect_list-loop-node
invariant-collect_list-loop-node l =
    (fold with_item l.found (items (nodes_of (drop l.node-index l.list))) ≡ fold with_item l.fn.found (items (nodes_of l.list)))
    × (are_words (addresses (nodes_of (drop l.node-index l.list))) ≡ are_words (addresses (nodes_of l.list)))
