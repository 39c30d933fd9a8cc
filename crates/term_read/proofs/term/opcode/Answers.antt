use Rattle.std.proofs.Common.{sym, ◌∙◌}
use Rattle.std.proofs.lemmas.Result.{err_from_is_err_and}
use Rattle.nir_lex.specs.From.{tokens_behind}
use Rattle.rule_spelling.specs.Text.{terminals_of}
use Rattle.term_read.specs.Standing.{tokens_or_none}
use Rattle.term_read.specs.Views.{annotated, here, place_of}
use Rattle.term_read.proofs.Terms.{op_fails}
use Rattle.term_read.proofs.term.opcode.Goals as goal

pub returns-in_err-head : goal.returns-in_err-head
returns-in_err-head c =
    let q = err_from_is_err_and c.from_residual-in_err-head.result c.from_residual-in_err-head.ensures.1 in
    let reader = c.args.reader.now in
    let p = reader.point in
    rw (q.1, q.2)
    (op_fails (place_of c.args.place) p.text.now reader.state (here p) (terminals_of p.text.now (tokens_or_none (tokens_behind p.text.now p.token)))
    (annotated c.in_ok-word.word) c.in_err-head.field-0.0 (sym c.is_word_or_quoted.ensures ∙ c.if-not-is_word_or_quoted.false) c.in_ok-word.ensures
    c.in_err-head.ensures)
