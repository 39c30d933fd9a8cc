use Rattle.std.proofs.Common.{◌≡◌, List, sym, subst, OnOk}
use Rattle.std.specs.List.{AllByRecursion}
use Rattle.nir_ir.specs.declared.journal.Use.{Use}
use Rattle.nir_ir.specs.Shaped.{IsShapedInstr, IsShapedPhi}
use Rattle.nir_tree.proofs.ListedLemmas.{block_added, instrs_shaped, phis_shaped}
use Rattle.nir_tree.proofs.use_list.add_block.Goals as goal

pub add_phis-requires : goal.add_phis-requires
add_phis-requires c = subst (AllByRecursion IsShapedPhi) (sym c.as_slice.ensures) (phis_shaped c.args.block.now c.requires)

pub add_instrs-requires : goal.add_instrs-requires
add_instrs-requires c = subst (AllByRecursion IsShapedInstr) (sym c.as_slice-2.ensures) (instrs_shaped c.args.block.now c.requires)

pub returns : goal.returns
returns c =
    subst (λ (t : List Use). OnOk c.add_instrs.result (c.add_instrs.new.uses ≡ t))
    (block_added c.args.value c.args.block.now c.args.uses.now c.add_phis.new.uses c.as_slice.result.now c.as_slice-2.result.now c.as_slice.ensures c.as_slice-2.ensures c.in_ok-add_phis.ensures)
    c.add_instrs.ensures
