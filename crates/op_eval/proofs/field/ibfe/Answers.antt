use Rattle.std.proofs.Common.{◌≡◌, ◌+◌, ◌%◌, ◌==◌, false, ◌∙◌, ap}
use Rattle.std.proofs.lemmas.Bool.{ne_eqb, lt-ltb}
use Rattle.op_eval.specs.Word.{residue, signed, field, signed_field}
use Rattle.op_eval.proofs.field.ibfe.Goals as goal

pub returns-then-place-count-lt32 : goal.returns-then-place-count-lt32
unfolding signed_field field
returns-then-place-count-lt32 c =
    let some : (c.args.z % 32 == 0) ≡ false = ne_eqb (c.args.z % 32) 0 c.if-count-eq0.false in
    rw (some, lt-ltb (c.args.y % 32 + c.args.z % 32) 32 c.if-place-count-lt32.true) (c.signed_bits.ensures ∙ ap (λ n. residue 32 (signed (c.args.z % 32) n)) c.low_bits.ensures)
