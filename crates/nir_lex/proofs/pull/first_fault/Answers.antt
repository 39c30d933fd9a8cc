use Rattle.std.proofs.Common.{◌≤◌, length, ap, sym, ◌∙◌, arith, rules, length-drop}
use Rattle.std.proofs.lemmas.List.{take_rest}
use Rattle.nir_lex.specs.Reading.{tokens_from}
use Rattle.nir_lex.specs.From.{fault_of}
use Rattle.nir_lex.proofs.Steps.{tail_within}
use Rattle.nir_lex.proofs.Pulled.{fault_behind, fault_of_bytes}
use Rattle.nir_lex.proofs.pull.first_fault.Goals as goal

pub overflow_add-place-in-Ok : goal.overflow_add-place-in-Ok
overflow_add-place-in-Ok c =
    let within = tail_within c.pieces.place c.in-Some.first.now c.in-Some.after.now c.in-Ok.piece c.in-Ok.ensures in
    search rules

pub slice_bounds-rest-count : goal.slice_bounds-rest-count
slice_bounds-rest-count c = tail_within c.pieces.place c.in-Some.first.now c.in-Some.after.now c.in-Ok.piece c.in-Ok.ensures

pub slice_bounds-rest-start : goal.slice_bounds-rest-start
slice_bounds-rest-start c =
    let within = tail_within c.pieces.place c.in-Some.first.now c.in-Some.after.now c.in-Ok.piece c.in-Ok.ensures in
    search rules

pub pieces-preserved : goal.pieces-preserved
pieces-preserved c =
    let after = c.in-Some.after.now in
    let tail = c.in-Ok.piece.tail in
    let within : tail ≤ length after = tail_within c.pieces.place c.in-Some.first.now after c.in-Ok.piece c.in-Ok.ensures in
    let before = ap (λ l. fault_of (tokens_from c.pieces.place 0 l)) (sym c.in-Some.ensures.cases.0) ∙ c.pieces.invariant.same in
    let next = sym (fault_behind c.pieces.place c.in-Some.first.now after c.in-Ok.piece c.in-Ok.ensures within) ∙ before in
    rw (take_rest after tail) (record { same = next; place = omega (arith, length-drop tail after, c.in-Some.ensures.cases.1, c.pieces.invariant.place) })

pub returns-in-Err-clause-bytes : goal.returns-in-Err-clause-bytes
returns-in-Err-clause-bytes c = fault_of_bytes c.pieces.place c.in-Some.first.now c.in-Some.after.now c.in-Err.fault c.in-Err.ensures
