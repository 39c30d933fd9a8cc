use Rattle.nir_lex.proofs.Spelled.{spelled_is_read}
use Rattle.nir_lex.proofs.lexer.spelled_is_read.Goals as goal

pub returns : goal.returns
returns c = spelled_is_read
