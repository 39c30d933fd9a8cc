use Rattle.std.proofs.Common.{◌≡◌, ◌%◌, ◌==◌, false, refl, sym, ◌∙◌, mod-lt, lit<}
use Rattle.std.proofs.lemmas.Bool.{ne_eqb}
use Rattle.op_eval.specs.Word.{residue, field}
use Rattle.op_eval.proofs.WordLemmas.{residue_below}
use Rattle.op_eval.proofs.FieldLemmas.{few_bits_fit}
use Rattle.op_eval.proofs.field.ubfe.Goals as goal

pub returns-then-count-eq0 : goal.returns-then-count-eq0
unfolding residue
returns-then-count-eq0 c = rw c.if-count-eq0.true refl

pub returns : goal.returns
unfolding field
returns c =
    let some : (c.args.z % 32 == 0) ≡ false = ne_eqb (c.args.z % 32) 0 c.if-count-eq0.false in
    rw some (c.low_bits.ensures ∙ sym (residue_below 32 _ (few_bits_fit _ (c.args.z % 32) (mod-lt c.args.z (lit< tt)))))
