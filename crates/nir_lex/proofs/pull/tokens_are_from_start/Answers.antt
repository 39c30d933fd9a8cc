use Rattle.nir_lex.proofs.Pulled.{from_start}
use Rattle.nir_lex.proofs.pull.tokens_are_from_start.Goals as goal

pub returns : goal.returns
returns c = from_start
