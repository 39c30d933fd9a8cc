use Rattle.std.proofs.Common.{◌≤◌, ◌+◌, ◌≡◌, suc, length, ap, sym, ◌∙◌, arith, rules, length-drop}
use Rattle.std.proofs.lemmas.List.{take_rest}
use Rattle.nir_lex.specs.Reading.{tokens_from}
use Rattle.nir_lex.specs.From.{tokens_at}
use Rattle.nir_lex.proofs.Steps.{tail_within}
use Rattle.nir_lex.proofs.Pulled.{behind_gap, first_here, bytes_behind, if_some}
use Rattle.nir_lex.proofs.pull.token_from.Goals as goal

pub overflow_add-end-in-Ok : goal.overflow_add-end-in-Ok
overflow_add-end-in-Ok c =
    let within = tail_within c.gaps.start c.in-Some.first.now c.in-Some.after.now c.in-Ok.piece c.in-Ok.ensures in
    search rules

pub slice_bounds-rest-count-in-Ok : goal.slice_bounds-rest-count-in-Ok
slice_bounds-rest-count-in-Ok c = tail_within c.gaps.start c.in-Some.first.now c.in-Some.after.now c.in-Ok.piece c.in-Ok.ensures

pub slice_bounds-rest-start-in-Ok : goal.slice_bounds-rest-start-in-Ok
slice_bounds-rest-start-in-Ok c =
    let within = tail_within c.gaps.start c.in-Some.first.now c.in-Some.after.now c.in-Ok.piece c.in-Ok.ensures in
    search rules

pub returns-in-Some-kind : goal.returns-in-Some-kind
returns-in-Some-kind c =
    let first = c.in-Some.first.now in
    let after = c.in-Some.after.now in
    let whole = c.in-Some.ensures.cases.0 in
    let size : c.gaps.start + suc (length after) ≡ length c.args.text.now = omega (arith, c.in-Some.ensures.cases.1, c.gaps.invariant.whole) in
    if_some (tokens_at c.args.text.now c.args.place)
    (first_here c.args.text.now c.args.place c.gaps.start first after c.in-Ok.piece c.in-Some-kind.kind c.in-Ok.ensures c.in-Some-kind.is
    (ap (λ l. tokens_from c.gaps.start 0 l) (sym whole) ∙ c.gaps.invariant.same)
    (sym whole ∙ c.gaps.invariant.rest)
    c.gaps.invariant.behind
    size)

pub gaps-preserved : goal.gaps-preserved
gaps-preserved c =
    let first = c.in-Some.first.now in
    let after = c.in-Some.after.now in
    let tail = c.in-Ok.piece.tail in
    let start = c.gaps.start in
    let within : tail ≤ length after = tail_within start first after c.in-Ok.piece c.in-Ok.ensures in
    let whole = c.in-Some.ensures.cases.0 in
    let passed = behind_gap start first after c.in-Ok.piece c.in-Ok.ensures within c.in_default-kind.is in
    rw (take_rest after tail) (record {
      same = passed ∙ ap (λ l. tokens_from start 0 l) (sym whole) ∙ c.gaps.invariant.same;
      rest = bytes_behind c.args.text.now start first tail after (sym whole ∙ c.gaps.invariant.rest);
      behind = omega (arith, c.gaps.invariant.behind);
      whole = omega (arith, length-drop tail after, c.in-Some.ensures.cases.1, c.gaps.invariant.whole);
    })
