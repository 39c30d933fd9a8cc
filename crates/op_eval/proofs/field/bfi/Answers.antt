use Rattle.std.proofs.Common.{◌≡◌, ℕ, ◌-◌, ◌*◌, ◌^◌, ◌<◌, ◌==◌, false, sym, ◌∙◌, ap, bit_and, bit_or, lt_of_le_of_lt}
use Rattle.std.proofs.lemmas.Bool.{ne_eqb}
use Rattle.std.proofs.lemmas.Nat.{or_lt, and_le_l}
use Rattle.std.specs.Int.Bits.{and_le_r}
use Rattle.std.specs.Int.Count.{count_trailing_zeros}
use Rattle.op_eval.specs.Word.{picked}
use Rattle.op_eval.proofs.WordLemmas.{residue_below}
use Rattle.op_eval.proofs.FieldLemmas.{and_wrapped}
use Rattle.op_eval.proofs.field.bfi.Goals as goal

pub returns : goal.returns
unfolding picked
returns c =
    let some : (c.args.x == 0) ≡ false = ne_eqb c.args.x 0 c.if-x-eq0.false in
    let raised : ℕ = c.args.y * 2 ^ count_trailing_zeros 64 c.args.x in
    let chosen : bit_and c.args.x raised < 2 ^ 32 = lt_of_le_of_lt (and_le_l c.args.x raised) c.requires.x in
    let kept : bit_and (2 ^ 32 - 1 - c.args.x) c.args.z < 2 ^ 32 = lt_of_le_of_lt (and_le_r (2 ^ 32 - 1 - c.args.x) c.args.z) c.requires.z in
    rw some (ap (λ n. bit_or n (bit_and (2 ^ 32 - 1 - c.args.x) c.args.z)) (and_wrapped c.args.x raised c.ranges.x.fits) ∙ sym (residue_below 32 _ (or_lt 32 _ _ chosen kept)))
