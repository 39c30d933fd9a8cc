use Rattle.std.proofs.Common.{sym}
use Rattle.std.proofs.lemmas.Nat.{xor_lt}
use Rattle.nir_ops.specs.Width.{width_bits}
use Rattle.op_eval.proofs.WordLemmas.{residue_below}
use Rattle.op_eval.proofs.whole.ixor.Goals as goal

pub returns : goal.returns
returns c = sym (residue_below (width_bits c.args.width) _ (xor_lt (width_bits c.args.width) _ _ c.requires.x c.requires.y))
