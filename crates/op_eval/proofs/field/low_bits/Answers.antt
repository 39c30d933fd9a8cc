use Rattle.op_eval.proofs.FieldLemmas.{low_bits_are}
use Rattle.op_eval.proofs.field.low_bits.Goals as goal

pub returns : goal.returns
returns c = low_bits_are c.args.number c.args.count c.requires
