use Rattle.std.proofs.Common.{◌%◌, ◌^◌, ◌<◌, ◌∙◌, subst, mod-lt, lit<}
use Rattle.nir_ops.specs.Width.{width_bits}
use Rattle.op_eval.specs.Word.{residue}
use Rattle.op_eval.proofs.ShiftLemmas.{rotated_down}
use Rattle.op_eval.proofs.shift.uror.Goals as goal

pub returns-in-W8 : goal.returns-in-W8
unfolding residue
returns-in-W8 c =
    let x : c.args.x < 2 ^ 8 = subst (λ w. c.args.x < 2 ^ width_bits w) c.in-W8.is c.requires.x in
    rw c.in-W8.is (c.rotate_right.ensures ∙ rotated_down 8 (c.args.y % 8) c.args.x (mod-lt c.args.y (lit< tt)) x)

pub returns-in-W16 : goal.returns-in-W16
unfolding residue
returns-in-W16 c =
    let x : c.args.x < 2 ^ 16 = subst (λ w. c.args.x < 2 ^ width_bits w) c.in-W16.is c.requires.x in
    rw c.in-W16.is (c.rotate_right-in-W16.ensures ∙ rotated_down 16 (c.args.y % 16) c.args.x (mod-lt c.args.y (lit< tt)) x)

pub returns-in-W32 : goal.returns-in-W32
unfolding residue
returns-in-W32 c =
    let x : c.args.x < 2 ^ 32 = subst (λ w. c.args.x < 2 ^ width_bits w) c.in-W32.is c.requires.x in
    rw c.in-W32.is (c.rotate_right-in-W32.ensures ∙ rotated_down 32 (c.args.y % 32) c.args.x (mod-lt c.args.y (lit< tt)) x)

pub returns-in-W64 : goal.returns-in-W64
unfolding residue
returns-in-W64 c =
    let x : c.args.x < 2 ^ 64 = subst (λ w. c.args.x < 2 ^ width_bits w) c.in-W64.is c.requires.x in
    rw c.in-W64.is (c.rotate_right-in-W64.ensures ∙ rotated_down 64 (c.args.y % 64) c.args.x (mod-lt c.args.y (lit< tt)) x)
