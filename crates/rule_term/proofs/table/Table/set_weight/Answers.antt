use Rattle.std.proofs.Common.{◌∙◌, slice_set, ap}
use Rattle.rule_term.specs.Table.{Table, op_weight}
use Rattle.rule_term.specs.Weights.{weight_at}
use Rattle.rule_term.proofs.WeightLemmas.{set_elsewhere}
use Rattle.rule_term.proofs.table.Table.set_weight.Goals as goal

pub returns-clause-others : goal.returns-clause-others
returns-clause-others c = λ other differ.
    ap (λ place. weight_at (slice_set c.self.inside.weights place c.args.weight) other) c.place_of.ensures.place
    ∙ set_elsewhere c.self.inside.weights c.args.op c.args.weight other differ
    ∙ ap (λ (t : Table). op_weight t other) c.self.view_is
