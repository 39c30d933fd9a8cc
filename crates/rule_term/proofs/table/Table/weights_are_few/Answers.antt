use Rattle.std.proofs.Common.{◌≤◌, subst}
use Rattle.rule_term.specs.Table.{Table, op_weight}
use Rattle.rule_term.proofs.WeightLemmas.{weight_is_few}
use Rattle.rule_term.proofs.table.Table.weights_are_few.Goals as goal

pub returns-clause-few : goal.returns-clause-few
returns-clause-few c = λ op. subst (λ (t : Table). op_weight t op ≤ 60) c.self.view_is (weight_is_few c.self.inside.weights op c.self.invariant.1)
