-- what is noted now, with what comes, is what is noted in the end
use Rattle.std.proofs.Common.{◌≡◌, drop}
use Rattle.nir_ir.specs.Items.{items}
use Rattle.nir_ir.specs.Nodes.{nodes_of}
use Rattle.nir_index.specs.Index.{noted}
use Rattle.nir_index.proofs.index.+note.Given as goal

abbrev pub invariant-note_list-loop-node : goal.invariant-note_list-loop-node
invariant-note_list-loop-node l = noted (items (nodes_of (drop l.node-index l.list))) l.index ≡ noted (items (nodes_of l.list)) l.fn.index
