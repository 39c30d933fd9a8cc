use Rattle.std.proofs.Common.{◌≡◌, length}
use Rattle.rule_spelling.specs.Formula.{terminals_from}
use Rattle.formula_read.specs.Formulas.{terminals, with_signs}
use Rattle.formula_read.proofs.formula_text.signs.Given as goal

-- the terminals so far before those of the rest are all
abbrev pub invariant-pieces : goal.invariant-pieces
invariant-pieces l = with_signs (terminals l.signs) (terminals_from 0 l.rest) ≡ terminals_from 0 l.text

abbrev pub decreases-pieces : goal.decreases-pieces
decreases-pieces l = length l.rest
