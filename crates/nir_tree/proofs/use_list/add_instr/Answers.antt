use Rattle.std.proofs.Common.{◌≡◌, List, OnOk, length, ap, subst, arith}
use Rattle.nir_ir.specs.declared.journal.Use.{Use}
use Rattle.nir_ir.specs.declared.journal.Use.TheVariants.{OfEffect}
use Rattle.nir_ir.specs.Shaped.{IsShapedInstr}
use Rattle.nir_tree.proofs.ListedLemmas.{two_sources}
use Rattle.nir_tree.proofs.OpcodeLemmas.{few_inputs}
use Rattle.nir_tree.proofs.use_list.add_instr.Goals as goal

pub add_srcs-requires : goal.add_srcs-requires
add_srcs-requires c =
    let shaped = subst IsShapedInstr c.in-Alu.is c.requires in
    let count = ap length c.as_slice.ensures in
    omega (arith, shaped.1, count, few_inputs c.in-Alu.op)

pub returns-in_ok-add-in-StoreBuf : goal.returns-in_ok-add-in-StoreBuf
returns-in_ok-add-in-StoreBuf c =
    rw c.in-StoreBuf.is
    (subst (λ (t : List Use). OnOk c.add-in-StoreBuf-2.result (c.add-in-StoreBuf-2.new.uses ≡ t))
    (two_sources c.args.value (OfEffect c.in-StoreBuf.effect) c.in-StoreBuf.offset c.in-StoreBuf.src c.args.uses.now c.add-in-StoreBuf.new.uses c.in_ok-add-in-StoreBuf.ensures)
    c.add-in-StoreBuf-2.ensures)
