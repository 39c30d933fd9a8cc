use Rattle.nir_lex.proofs.Spelled.{blanks_are_passed}
use Rattle.nir_lex.proofs.lexer.blanks_are_passed.Goals as goal

pub returns : goal.returns
returns c = blanks_are_passed
