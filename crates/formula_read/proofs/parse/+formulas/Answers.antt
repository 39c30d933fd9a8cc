use Rattle.std.proofs.Common.{sym, ◌∙◌, ◌-◌, length}
use Rattle.std.proofs.lemmas.Result.{err_from_is_err_and}
use Rattle.formula_read.specs.Formulas.{terminals, when_says}
use Rattle.formula_read.specs.FormulaParts.{conjunction_to, operand_to, with_and, with_or}
use Rattle.formula_read.proofs.FormulaSteps.{fails, and_ends, and_fails, and_goes, and_turns_end, or_ends, or_fails, or_goes, or_turns_end}
use Rattle.formula_read.proofs.parse.+formulas.Goals as goal

pub joined_by_and-returns-in_default : goal.joined_by_and-returns-in_default
joined_by_and-returns-in_default t c =
    let l = c.others in
    sym l.invariant
    ∙ and_ends c.args.depth (length c.args.first.rest.signs.now - l._turn) (when_says l.left) (terminals l.at.signs.now) c.in_default.ensures

pub joined_by_and-returns-in_err-when : goal.joined_by_and-returns-in_err-when
joined_by_and-returns-in_err-when t c =
    let q = err_from_is_err_and c.from_residual.result c.from_residual.ensures.1 in
    let l = c.others in
    let behind = terminals c.in-Some.behind.signs.now in
    rw (q.1, q.2)
    (fails c.in_err-when.field-0.0 (operand_to c.args.depth behind)
    (with_and c.args.depth (length c.args.first.rest.signs.now) (when_says c.args.first.when) (terminals c.args.first.rest.signs.now))
    (λ e h.
    sym l.invariant
    ∙ and_fails c.args.depth l._turn (length c.args.first.rest.signs.now) (when_says l.left) (terminals l.at.signs.now) behind e c.others-test.true
    c.in-Some.ensures h)
    c.in_err-when.ensures)

pub joined_by_and-others-preserved : goal.joined_by_and-others-preserved
joined_by_and-others-preserved t c =
    let l = c.others in
    let behind = terminals c.in-Some.behind.signs.now in
    rw c.in_ok-left.ensures.ok
    (sym
    (and_goes c.args.depth l._turn (length c.args.first.rest.signs.now) (when_says l.left) (terminals l.at.signs.now) behind
    (terminals c.in_ok-when.field-0.rest.signs.now) (when_says c.in_ok-when.field-0.when) c.others-test.true c.in-Some.ensures c.in_ok-when.ensures)
    ∙ l.invariant)

pub joined_by_and-returns : goal.joined_by_and-returns
joined_by_and-returns t c =
    let l = c.others in
    sym l.invariant
    ∙ and_turns_end c.args.depth l._turn (length c.args.first.rest.signs.now) (when_says l.left) (terminals l.at.signs.now) c.others-test.false

pub joined_by_or-returns-in_default : goal.joined_by_or-returns-in_default
joined_by_or-returns-in_default t c =
    let l = c.others in
    sym l.invariant
    ∙ or_ends c.args.depth (length c.args.first.rest.signs.now - l._turn) (when_says l.left) (terminals l.at.signs.now) c.in_default.ensures

pub joined_by_or-returns-in_err-when : goal.joined_by_or-returns-in_err-when
joined_by_or-returns-in_err-when t c =
    let q = err_from_is_err_and c.from_residual.result c.from_residual.ensures.1 in
    let l = c.others in
    let behind = terminals c.in-Some.behind.signs.now in
    rw (q.1, q.2)
    (fails c.in_err-when.field-0.0 (conjunction_to c.args.depth behind)
    (with_or c.args.depth (length c.args.first.rest.signs.now) (when_says c.args.first.when) (terminals c.args.first.rest.signs.now))
    (λ e h.
    sym l.invariant
    ∙ or_fails c.args.depth l._turn (length c.args.first.rest.signs.now) (when_says l.left) (terminals l.at.signs.now) behind e c.others-test.true
    c.in-Some.ensures h)
    c.in_err-when.ensures)

pub joined_by_or-others-preserved : goal.joined_by_or-others-preserved
joined_by_or-others-preserved t c =
    let l = c.others in
    let behind = terminals c.in-Some.behind.signs.now in
    rw c.in_ok-left.ensures.ok
    (sym
    (or_goes c.args.depth l._turn (length c.args.first.rest.signs.now) (when_says l.left) (terminals l.at.signs.now) behind
    (terminals c.in_ok-when.field-0.rest.signs.now) (when_says c.in_ok-when.field-0.when) c.others-test.true c.in-Some.ensures c.in_ok-when.ensures)
    ∙ l.invariant)

pub joined_by_or-returns : goal.joined_by_or-returns
joined_by_or-returns t c =
    let l = c.others in
    sym l.invariant
    ∙ or_turns_end c.args.depth l._turn (length c.args.first.rest.signs.now) (when_says l.left) (terminals l.at.signs.now) c.others-test.false
