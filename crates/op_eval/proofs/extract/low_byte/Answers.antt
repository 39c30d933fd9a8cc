use Rattle.std.proofs.Common.{◌-◌, ◌^◌, ◌∙◌, ap, bit_and, lit≤}
use Rattle.std.proofs.lemmas.Nat.{and_mask}
use mir.Syntax.{w64}
use Rattle.op_eval.specs.Word.{residue}
use Rattle.op_eval.proofs.WordLemmas.{residue_cut, word_of}
use Rattle.op_eval.proofs.extract.low_byte.Goals as goal

pub returns-clause-value : goal.returns-clause-value
returns-clause-value c =
    ap (λ n. bit_and n (2 ^ 8 - 1)) (c.cast_unsigned.ensures ∙ word_of w64 c.args.number c.ranges.number (lit≤ tt))
    ∙ and_mask (residue 64 c.args.number) 8
    ∙ residue_cut 56 8 c.args.number
