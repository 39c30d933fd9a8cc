use Rattle.std.proofs.Common.{◌≡◌, ◌++◌, ap, ◌∙◌}
use Rattle.std.specs.List.{flat_map}
use Rattle.nir_print.specs.Text.{deeper, line, phi_text, instr_text, jump_text}
use Rattle.std.specs.Option.{option_to_list}
use Rattle.nir_print.proofs.Lines.{on_ok, five_pushed}
use Rattle.nir_print.proofs.tree.push_block.Goals as goal

pub returns : goal.returns
returns c =
    let naming = c.args.naming.now in
    let inner = c.as_slice-inner.result.now in
    let spaces : inner ≡ deeper c.args.indent.now = c.as_slice-inner.ensures.value ∙ c.in_ok-spaces.ensures in
    on_ok c.push_line.result _ _
    (λ last. five_pushed c.args.out.now.items c.push_block_head.new.out.items c.push_phis.new.out.items c.push_instrs.new.out.items c.push_jump_line.new.out.items c.push_line.new.out.items _ _ _ _ _
    c.in_ok-push_block_head.ensures
    (c.in_ok-push_phis.ensures
    ∙ ap (λ phis. c.push_block_head.new.out.items ++ flat_map (λ phi. line inner (phi_text naming phi)) phis) c.as_slice.ensures
    ∙ ap (λ i. c.push_block_head.new.out.items ++ flat_map (λ phi. line i (phi_text naming phi)) c.args.block.now.phis) spaces)
    (c.in_ok-push_instrs.ensures
    ∙ ap (λ instrs. c.push_phis.new.out.items ++ flat_map (λ instr. line inner (instr_text naming instr)) instrs) c.as_slice-2.ensures
    ∙ ap (λ i. c.push_phis.new.out.items ++ flat_map (λ instr. line i (instr_text naming instr)) c.args.block.now.instrs) spaces)
    (c.in_ok-push_jump_line.ensures
    ∙ ap (λ i. c.push_instrs.new.out.items ++ flat_map (λ jump. line i (jump_text jump)) (option_to_list c.args.block.now.jump)) spaces)
    last)
    c.push_line.ensures
