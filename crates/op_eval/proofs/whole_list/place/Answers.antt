use Rattle.std.proofs.Common.{◌<◌, ◌^◌, sym, subst}
use Rattle.nir_ops.specs.Width.{width_bits}
use Rattle.op_eval.specs.Meaning.{op_mean}
use Rattle.op_eval.proofs.WordLemmas.{residue_lt}
use Rattle.op_eval.proofs.whole_list.place.Goals as goal

pub returns-clause-value : goal.returns-clause-value
unfolding op_mean
returns-clause-value c = cc

pub returns-clause-small : goal.returns-clause-small
unfolding op_mean
returns-clause-small c = subst (λ n. n < 2 ^ width_bits c.args.dst) (sym (returns-clause-value c)) (residue_lt (width_bits c.args.dst) _)
