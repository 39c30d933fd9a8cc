use Rattle.std.proofs.Common.{◌<◌, ◌≤◌, lit<, ◌++◌, [], ◌∷◌, ℕ, length, sym, ap, ◌∙◌, arith, map}
use Rattle.std.specs.List.{range_with_len}
use Rattle.std.proofs.lemmas.List.FromFn.{length-map-range_with_len, map-range_with_len_more}
use Rattle.nir_ops.specs.Width.{width_bits}
use Rattle.circuit_laws.specs.Variables.{var_width}
use Rattle.bit_circuit.proofs.variables.bits_of_vars.Goals as goal

pub push-requires : goal.push-requires
push-requires c =
    let count = ap length c.loop-var.invariant ∙ length-map-range_with_len (λ var. width_bits (var_width c.args.rule.now c.args.typing.now.widths var)) 0 c.loop-var.var in
    let few : c.rule.inside.vars ≤ 16 = c.rule.invariant.few_vars in
    let room : length c.loop-var.bits.items < 16 = omega arith in
    (lit< tt, room)

pub loop-var-preserved : goal.loop-var-preserved
loop-var-preserved c =
    let bits : ℕ → ℕ = λ var. width_bits (var_width c.args.rule.now c.args.typing.now.widths var) in
    c.push.ensures.items
    ∙ ap (λ list. list ++ c.bits.result ∷ []) c.loop-var.invariant
    ∙ ap (λ b. map bits (range_with_len 0 c.loop-var.var) ++ b ∷ []) (c.bits.ensures ∙ ap width_bits c.width_of_var.ensures)
    ∙ sym (map-range_with_len_more bits 0 c.loop-var.var c.loop-var.var (omega arith))
