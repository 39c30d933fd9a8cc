use Rattle.nir_ops.proofs.NamesLemmas.{distinct}
use Rattle.nir_ops.proofs.lookup.names_are_distinct.Goals as goal

pub returns : goal.returns
returns c = distinct
