use Rattle.std.proofs.Common.{◌≤◌, length, ap, sym, ◌∙◌, arith, rules, length-drop}
use Rattle.std.proofs.lemmas.List.{take_rest}
use Rattle.nir_lex.specs.Reading.{read_tokens, tokens_from}
use Rattle.nir_lex.proofs.Steps.{tail_within, goes_on, with_front}
use Rattle.nir_lex.proofs.lexer.all_tokens.Goals as goal

pub overflow_add-end-in-Some : goal.overflow_add-end-in-Some
overflow_add-end-in-Some c =
    let within = tail_within c.pieces.place c.in-Some.first.now c.in-Some.after.now c.in_ok-piece.piece c.in_ok-piece.ensures in
    search rules

pub slice_bounds-rest-count : goal.slice_bounds-rest-count
slice_bounds-rest-count c = tail_within c.pieces.place c.in-Some.first.now c.in-Some.after.now c.in_ok-piece.piece c.in_ok-piece.ensures

pub slice_bounds-rest-start : goal.slice_bounds-rest-start
slice_bounds-rest-start c =
    let within = tail_within c.pieces.place c.in-Some.first.now c.in-Some.after.now c.in_ok-piece.piece c.in_ok-piece.ensures in
    search rules

pub pieces-preserved : goal.pieces-preserved
pieces-preserved c =
    let after = c.in-Some.after.now in
    let tail = c.in_ok-piece.piece.tail in
    let within : tail ≤ length after = tail_within c.pieces.place c.in-Some.first.now after c.in_ok-piece.piece c.in_ok-piece.ensures in
    let before = ap (λ l. with_front c.pieces.list (tokens_from c.pieces.place 0 l)) (sym c.in-Some.ensures.cases.0) ∙ c.pieces.invariant.so_far in
    let next = goes_on c.pieces.list c.pieces.place c.in-Some.first.now after c.in_ok-piece.piece (read_tokens c.args.text.now) c.in_ok-piece.ensures within before in
    rw (take_rest after tail, c.in_ok-add_kind.ensures.ok) (record { so_far = next; place = omega (arith, length-drop tail after, c.in-Some.ensures.cases.1) })
