-- the lines that are written and those that are left make all
use Rattle.std.proofs.Common.{◌≡◌, ◌++◌, drop}
use Rattle.std.specs.List.{flat_map}
use Rattle.nir_print.specs.Text.{line, instr_text}
use Rattle.nir_print.proofs.tree.push_instrs.Given as goal

abbrev pub invariant-loop-instr : goal.invariant-loop-instr
invariant-loop-instr l = l.out.items ++ flat_map (λ instr. line l.indent (instr_text l.naming instr)) (drop l.instr-index l.instrs) ≡ l.fn.out.items ++ flat_map (λ instr. line l.indent (instr_text l.naming instr)) l.instrs
