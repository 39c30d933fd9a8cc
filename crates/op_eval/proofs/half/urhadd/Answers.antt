use Rattle.std.proofs.Common.{◌-◌, ◌^◌, ◌<◌, ◌∙◌, ap, subst}
use Rattle.nir_ops.specs.Width.{width_bits}
use Rattle.op_eval.proofs.HalfLemmas.{round_half}
use Rattle.op_eval.proofs.half.urhadd.Goals as goal

pub returns-in-W8 : goal.returns-in-W8
returns-in-W8 c =
    let x : c.args.x < 2 ^ 8 = subst (λ w. c.args.x < 2 ^ width_bits w) c.in-W8.is c.requires.x in
    let y : c.args.y < 2 ^ 8 = subst (λ w. c.args.y < 2 ^ width_bits w) c.in-W8.is c.requires.y in
    rw c.in-W8.is (ap (λ n. 255 - n) c.midpoint.ensures ∙ round_half 8 c.args.x c.args.y x y)

pub returns-in-W16 : goal.returns-in-W16
returns-in-W16 c =
    let x : c.args.x < 2 ^ 16 = subst (λ w. c.args.x < 2 ^ width_bits w) c.in-W16.is c.requires.x in
    let y : c.args.y < 2 ^ 16 = subst (λ w. c.args.y < 2 ^ width_bits w) c.in-W16.is c.requires.y in
    rw c.in-W16.is (ap (λ n. 65535 - n) c.midpoint-in-W16.ensures ∙ round_half 16 c.args.x c.args.y x y)

pub returns-in-W32 : goal.returns-in-W32
returns-in-W32 c =
    let x : c.args.x < 2 ^ 32 = subst (λ w. c.args.x < 2 ^ width_bits w) c.in-W32.is c.requires.x in
    let y : c.args.y < 2 ^ 32 = subst (λ w. c.args.y < 2 ^ width_bits w) c.in-W32.is c.requires.y in
    rw c.in-W32.is (ap (λ n. 4294967295 - n) c.midpoint-in-W32.ensures ∙ round_half 32 c.args.x c.args.y x y)

pub returns-in-W64 : goal.returns-in-W64
returns-in-W64 c =
    let x : c.args.x < 2 ^ 64 = subst (λ w. c.args.x < 2 ^ width_bits w) c.in-W64.is c.requires.x in
    let y : c.args.y < 2 ^ 64 = subst (λ w. c.args.y < 2 ^ width_bits w) c.in-W64.is c.requires.y in
    rw c.in-W64.is (ap (λ n. 18446744073709551615 - n) c.midpoint-in-W64.ensures ∙ round_half 64 c.args.x c.args.y x y)
