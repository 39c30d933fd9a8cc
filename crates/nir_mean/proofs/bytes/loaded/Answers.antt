use Rattle.nir_mean.proofs.ByteLemmas.{bytes_pow}
use Rattle.nir_mean.proofs.bytes.loaded.Goals as goal

pub returns-then-place-size-clause-small : goal.returns-then-place-size-clause-small
returns-then-place-size-clause-small c = bytes_pow c.args.size
