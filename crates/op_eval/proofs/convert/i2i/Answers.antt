use Rattle.std.proofs.Common.{◌%◌, ◌^◌, ◌∙◌, ap, lit≤}
use Rattle.std.specs.Int.RustNames.{FitsSigned}
use mir.Syntax.{w64}
use Rattle.nir_ops.specs.Width.{width_bits}
use Rattle.op_eval.specs.Word.{residue}
use Rattle.op_eval.proofs.WordLemmas.{residue_within, word_of, width_small}
use Rattle.op_eval.proofs.convert.i2i.Goals as goal

pub returns : goal.returns
returns c =
    let fits : FitsSigned w64 c.signed_number.result = record { sfits = c.signed_number.type_inv } in
    c.cut.ensures
    ∙ ap (λ n. n % 2 ^ width_bits c.args.to) (c.cast_unsigned.ensures ∙ word_of w64 c.signed_number.result fits (lit≤ tt))
    ∙ residue_within (width_bits c.args.to) c.signed_number.result (width_small c.args.to)
    ∙ ap (residue (width_bits c.args.to)) c.signed_number.ensures
