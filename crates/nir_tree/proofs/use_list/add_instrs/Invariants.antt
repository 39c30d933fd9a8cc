-- the uses so far, and then those by the instructions that are left, are all
use Rattle.std.proofs.Common.{◌≡◌, ◌++◌, drop}
use Rattle.std.specs.List.{flat_map, AllByRecursion}
use Rattle.nir_ir.specs.Items.{InstrItem}
use Rattle.nir_ir.specs.Shaped.{IsShapedInstr}
use Rattle.nir_tree.specs.Listed.{uses_by}
use Rattle.nir_tree.proofs.use_list.add_instrs.Given as goal

abbrev pub invariant-loop-instr : goal.invariant-loop-instr
invariant-loop-instr l = record {
  added : l.uses ++ flat_map (λ instr. uses_by l.value (InstrItem instr)) (drop l.instr-index l.instrs) ≡ l.initial.uses ++ flat_map (λ instr. uses_by l.value (InstrItem instr)) l.instrs;
  shaped : AllByRecursion IsShapedInstr (drop l.instr-index l.instrs);
}
