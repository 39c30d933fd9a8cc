use Rattle.std.proofs.Common.{◌∙◌, sym}
use Rattle.nir_ir.specs.Definitions.{phi_of, is_phi_of}
use Rattle.nir_ir.proofs.FindLemmas.{found, passed}
use Rattle.nir_ir.proofs.find.+phi.Goals as goal

pub phi_in_list-returns-in-Some : goal.phi_in_list-returns-in-Some
phi_in_list-returns-in-Some t c =
    sym (found phi_of (is_phi_of c.args.value) c.args.list.now c.loop-node.node-index c.node-item.result c.in-Some.phi.now c.loop-node-test.true c.node-item.is c.in-Some.ensures)
    ∙ c.loop-node.invariant

pub phi_in_list-loop-node-preserved : goal.phi_in_list-loop-node-preserved
phi_in_list-loop-node-preserved t c =
    sym (passed phi_of (is_phi_of c.args.value) c.args.list.now c.loop-node.node-index c.node-item.result c.loop-node-test.true c.node-item.is c.in-None.ensures)
    ∙ c.loop-node.invariant
