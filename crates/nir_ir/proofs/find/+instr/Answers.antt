use Rattle.std.proofs.Common.{◌∙◌, sym}
use Rattle.nir_ir.specs.Definitions.{instr_of, is_target}
use Rattle.nir_ir.proofs.FindLemmas.{found, passed}
use Rattle.nir_ir.proofs.find.+instr.Goals as goal

pub instr_in_list-returns-in-Some : goal.instr_in_list-returns-in-Some
instr_in_list-returns-in-Some t c =
    sym (found instr_of (is_target c.args.value) c.args.list.now c.loop-node.node-index c.node-item.result c.in-Some.instr.now c.loop-node-test.true c.node-item.is c.in-Some.ensures)
    ∙ c.loop-node.invariant

pub instr_in_list-loop-node-preserved : goal.instr_in_list-loop-node-preserved
instr_in_list-loop-node-preserved t c =
    sym (passed instr_of (is_target c.args.value) c.args.list.now c.loop-node.node-index c.node-item.result c.loop-node-test.true c.node-item.is c.in-None.ensures)
    ∙ c.loop-node.invariant
