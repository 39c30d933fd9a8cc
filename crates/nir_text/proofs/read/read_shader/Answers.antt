use Rattle.std.proofs.lemmas.Result.{err_from_is_err_and}
use Rattle.nir_lex.specs.Reading.{read_tokens}
use Rattle.nir_text.specs.Tree.{lexed, read_text}
use Rattle.nir_text.proofs.Front.{fails}
use Rattle.nir_text.proofs.Whole.{text-no_tokens, text-tokens}
use Rattle.nir_text.proofs.read.read_shader.Goals as goal

pub returns-in_err-list-clause-exact : goal.returns-in_err-list-clause-exact
returns-in_err-list-clause-exact c =
    let q = err_from_is_err_and c.from_residual.result c.from_residual.ensures.1 in
    rw (q.1, q.2) (fails c.in_err-list.field-0.0 (lexed (read_tokens c.args.text.now)) (read_text c.args.text.now) (λ f e. text-no_tokens c.args.text.now f e) c.in_err-list.ensures.exact)

pub returns-clause-exact : goal.returns-clause-exact
returns-clause-exact c = rw (text-tokens c.args.text.now c.in_ok-list.list c.in_ok-list.ensures.exact, ← c.as_slice.ensures) c.shader_of.ensures.exact
