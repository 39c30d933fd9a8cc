use Rattle.nir_lex.proofs.Order.{in_order}
use Rattle.nir_lex.proofs.lexer.tokens_are_in_order.Goals as goal

pub returns : goal.returns
returns c = in_order
