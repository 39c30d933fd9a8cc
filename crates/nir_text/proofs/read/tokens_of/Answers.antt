use Rattle.std.proofs.Common.{length, arith}
use Rattle.nir_text.proofs.Tokens.{AreWithin-from_order, few_from_order}
use Rattle.nir_text.proofs.read.tokens_of.Goals as goal

pub returns-in-Ok-clause-within : goal.returns-in-Ok-clause-within
returns-in-Ok-clause-within c = AreWithin-from_order 0 (length c.args.text.now) c.in-Ok.list c.in-Ok.ensures.in_order

pub returns-in-Ok-clause-few : goal.returns-in-Ok-clause-few
returns-in-Ok-clause-few c = let few = few_from_order 0 (length c.args.text.now) c.in-Ok.list c.in-Ok.ensures.in_order in omega arith
