use Rattle.std.proofs.Common.{◌≡◌, ◌+◌, ◌*◌, ◌-◌}
use Rattle.formula_read.specs.Formulas.{terminals, when_says}
use Rattle.formula_read.specs.FormulaParts.{with_and, with_or}
use Rattle.formula_read.proofs.parse.+formulas.Given as goal

abbrev pub decreases-nested_operand : goal.decreases-nested_operand
decreases-nested_operand l = 7 * l.depth

abbrev pub decreases-nested_formula : goal.decreases-nested_formula
decreases-nested_formula l = 7 * l.depth

abbrev pub decreases-negated : goal.decreases-negated
decreases-negated l = 7 * l.depth + 1

abbrev pub decreases-in_parentheses : goal.decreases-in_parentheses
decreases-in_parentheses l = 7 * l.depth + 1

abbrev pub decreases-operand : goal.decreases-operand
decreases-operand l = 7 * l.depth + 2

abbrev pub decreases-joined_by_and : goal.decreases-joined_by_and
decreases-joined_by_and l = 7 * l.depth + 3

abbrev pub decreases-conjunction : goal.decreases-conjunction
decreases-conjunction l = 7 * l.depth + 4

abbrev pub decreases-joined_by_or : goal.decreases-joined_by_or
decreases-joined_by_or l = 7 * l.depth + 5

abbrev pub decreases-disjunction : goal.decreases-disjunction
decreases-disjunction l = 7 * l.depth + 6

abbrev pub invariant-joined_by_and-others : goal.invariant-joined_by_and-others
invariant-joined_by_and-others l =
    with_and l.depth (l.fuel - l._turn) (when_says l.left) (terminals l.at.signs.now)
    ≡ with_and l.depth l.fuel (when_says l.fn.first.when) (terminals l.fn.first.rest.signs.now)

abbrev pub invariant-joined_by_or-others : goal.invariant-joined_by_or-others
invariant-joined_by_or-others l =
    with_or l.depth (l.fuel - l._turn) (when_says l.left) (terminals l.at.signs.now)
    ≡ with_or l.depth l.fuel (when_says l.fn.first.when) (terminals l.fn.first.rest.signs.now)
