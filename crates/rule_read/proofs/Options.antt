-- What a formula that always holds says.
use Rattle.std.proofs.Common.{◌≡◌}
use Rattle.rule_term.specs.declared.when.When.{fold-roll-When, roll-When}
use Rattle.rule_term.specs.declared.when.When.TheVariants as when
use Rattle.rule_term.specs.declared.when.When.TheOpen as layer
use Rattle.rule_spelling.specs.Formula.{Formula, Always}
use Rattle.formula_read.specs.Formulas.{when_says, layer_says}

pub always_says : when_says when.Always ≡ Always
unfolding when_says roll-When denote.Hole.Carrier.roll
always_says = fold-roll-When Formula layer_says layer.Always
