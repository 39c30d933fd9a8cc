use Rattle.std.proofs.Common.{◌*◌, ◌/◌, ◌^◌, pos, sym, ◌∙◌, ap, arith}
use Rattle.std.proofs.lemmas.Nat.{and_mask, pow_pos}
use Rattle.nir_ops.specs.Width.{width_bits}
use Rattle.op_eval.specs.Word.{residue, field}
use Rattle.op_eval.proofs.WordLemmas.{residue_below}
use Rattle.op_eval.proofs.FieldLemmas.{far_field, field_fits}
use Rattle.op_eval.proofs.extract.extract_u8.Goals as goal

pub returns-then-y-ge8 : goal.returns-then-y-ge8
returns-then-y-ge8 c =
    sym (ap (λ n. residue (width_bits c.args.width) (pos n)) (far_field c.args.x (8 * c.args.y) 8 c.ranges.x.fits (omega arith)) ∙ residue_below (width_bits c.args.width) 0 (pow_pos (width_bits c.args.width)))

pub returns : goal.returns
unfolding field
returns c =
    and_mask (c.args.x / 2 ^ (8 * c.args.y)) 8 ∙ sym (residue_below (width_bits c.args.width) _ (field_fits (width_bits c.args.width) c.args.x (8 * c.args.y) 8 c.requires))
