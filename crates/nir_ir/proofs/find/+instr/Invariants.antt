-- no node before the place defines the value
use Rattle.std.proofs.Common.{◌≡◌, drop}
use Rattle.nir_ir.specs.Nodes.{nodes_of}
use Rattle.nir_ir.specs.Definitions.{instr_defining}
use Rattle.nir_ir.proofs.find.+instr.Given as goal

abbrev pub invariant-instr_in_list-loop-node : goal.invariant-instr_in_list-loop-node
invariant-instr_in_list-loop-node l = instr_defining l.value (nodes_of (drop l.node-index l.list)) ≡ instr_defining l.value (nodes_of l.list)
