use Rattle.std.proofs.lemmas.List.{take_rest}
use Rattle.rule_spelling.specs.Formula.{terminals_from}
use Rattle.formula_read.specs.Formulas.{begun, terminals}
use Rattle.formula_read.proofs.FormulaTexts.{added, piece_ends, piece_goes}
use Rattle.formula_read.proofs.formula_text.signs.Goals as goal

pub returns-in_default-piece_of : goal.returns-in_default-piece_of
returns-in_default-piece_of c =
    piece_ends (terminals c.pieces.signs) c.in-Some.first.now c.in-Some._after.now c.pieces.rest.now (terminals_from 0 c.args.text.now) c.in-Some.ensures.cases.0
    c.in_default-piece_of.ensures.value c.pieces.invariant

pub pieces-preserved : goal.pieces-preserved
pieces-preserved c =
    let piece = begun c.in-Some-piece_of.piece in
    rw (take_rest c.pieces.rest.now c.in-Some-piece_of.piece.size, c.in_ok-add.ensures, added c.pieces.signs c.in-Some-piece_of.piece.sign)
    (piece_goes (terminals c.pieces.signs) c.in-Some.first.now c.in-Some._after.now c.pieces.rest.now piece (terminals_from 0 c.args.text.now)
    c.in-Some.ensures.cases.0 c.in-Some-piece_of.ensures.value c.pieces.invariant)
